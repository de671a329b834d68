-- Which host may speak for which member.
use Rattle.std.specs.Prelude.{ℕ, ◌≡◌, List, Some, slice_get, option_map}
use Rattle.std.specs.Net.Socket.{socket_ip}
use Rattle.std.specs.declared.net.ip_addr.IpAddr.{IpAddr}
use Rattle.std.specs.declared.net.socket_addr.SocketAddr.{SocketAddr}
use Rattle.running.specs.declared.hosts.Hosts.{Hosts}
use Rattle.running.specs.declared.hosts.Hosts.TheVariants.{OfMembers}

-- A link of the member may come from this host: it is that of the member's address, where not any host will do.
abbrev pub MaySpeak : List SocketAddr → Hosts → ℕ → IpAddr → Type 0
MaySpeak addresses hosts member host = hosts ≡ OfMembers → option_map socket_ip (slice_get addresses member) ≡ Some host
