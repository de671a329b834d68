-- What a gateway is started with.
use Rattle.std.specs.Prelude.{ℕ, ◌≡◌, ◌<◌, ◌≤◌, ◌⊎◌, ◌++◌, Bool, List, length, codes, bit_and, not, ◌==◌}
use Rattle.std.specs.List.{All}
use Rattle.std.specs.declared.net.socket_addr.SocketAddr.{SocketAddr}
use Rattle.portal.specs.declared.serving.Opening.{Opening}
use Rattle.portal.specs.declared.serving.OpeningFault.{OpeningFault}
use Rattle.portal.specs.declared.serving.OpeningFault.TheVariants as unopened
use Rattle.machine.specs.declared.fault.RunFault.TheVariants as ends_of_run
use Rattle.settings.specs.declared.client.ClientSettings.{ClientSettings}
use Rattle.asking.specs.Sockets.{AreSocketsOf}
use Rattle.troubles.specs.Faults.{IsFileFault}
use Rattle.troubles.specs.declared.fault.Fault.{Fault}
use Rattle.troubles.specs.declared.fault.Fault.TheVariants as ends

-- a printable character of ASCII that isn't a blank
abbrev pub IsTokenByte : ℕ → Type 0
IsTokenByte byte = (32 < byte) × (byte < 127)

-- 16 to 256 of them
abbrev pub IsToken : List ℕ → Type 0
IsToken bytes = (16 ≤ length bytes) × (length bytes ≤ 256) × All IsTokenByte bytes

-- the text is this line, with its end or without
abbrev pub IsLineOf : List ℕ → List ℕ → Type 0
IsLineOf text line = (text ≡ line) ⊎ (text ≡ line ++ codes "\n")

-- the text is a token
abbrev pub HasToken : List ℕ → List ℕ → Type 0
HasToken text token = IsToken token × IsLineOf text token

-- others than the owner and its group may read or write a file of this mode
abbrev pub is_open_mode : ℕ → Bool
is_open_mode mode = not (bit_and mode 6 == 0)

-- the gateway is that of the client's cluster, and has this address and this token
pub record Opens (client : ClientSettings) (address : SocketAddr) (secret : List ℕ) (opening : Opening) : Type 0 where
  pub cluster : opening.cluster ≡ client.cluster
  pub size : opening.size ≡ client.size
  pub chain : opening.chain ≡ client.chain
  pub desks : AreSocketsOf client.desks.items opening.desks.items
  pub listen : opening.listen ≡ address
  pub token : opening.token.items ≡ secret

-- why one doesn't start that has this fault: its address can't be listened at, or memory or a thread was refused
abbrev pub IsUnopened : OpeningFault → Fault → Type 0
IsUnopened (unopened.Listen error) given = IsFileFault (ends.Run ends_of_run.Listen) error given
IsUnopened unopened.Memory given = given ≡ ends.Memory
IsUnopened unopened.Thread given = given ≡ ends.Memory
