-- Addresses of the settings as sockets have them.
use Rattle.std.specs.Prelude.{ℕ, ◌≡◌, List, [], ◌∷◌, ⊤}
use Rattle.std.specs.Net.Addr.{IsV4And, ipv4_octets}
use Rattle.std.specs.Net.Socket.{socket_ip, socket_port}
use Rattle.std.specs.declared.net.socket_addr.SocketAddr.{SocketAddr}
use Rattle.settings.specs.declared.address.Address.{Address}

-- the address as sockets have it
pub record IsSocketOf (address : Address) (socket : SocketAddr) : Type 0 where
  pub host : IsV4And (socket_ip socket) (λ ip. ipv4_octets ip ≡ address.octets)
  pub port : socket_port socket ≡ address.port

-- the same of each of these, in order
abbrev pub AreSocketsOf : List Address → List SocketAddr → Type 0
AreSocketsOf [] [] = ⊤
AreSocketsOf (address ∷ addresses) (socket ∷ sockets) = IsSocketOf address socket × AreSocketsOf addresses sockets
AreSocketsOf [] (socket ∷ sockets) = ⊥
AreSocketsOf (address ∷ addresses) [] = ⊥
