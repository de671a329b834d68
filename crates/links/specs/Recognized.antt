-- Greetings by their bytes.
use Rattle.std.specs.Prelude.{ℕ, ◌≡◌, ◌≢◌, ◌<◌, List, [], ◌∷◌, ◌++◌}
use Rattle.std.specs.Int.{w16, w64, to_be_bytes}
use Rattle.terms_prelude.specs.Terms.{Size}
use Rattle.wire.specs.declared.message.Message.TheVariants as message
use Rattle.wire.specs.declared.message.Version.{Version}
use Rattle.wire.specs.Texts.{frame_bytes}
use Rattle.links.specs.declared.recognized.HelloBytes.{HelloBytes}

-- these bytes are no Welcome
abbrev pub IsNotWelcome : List ℕ → Type 0
IsNotWelcome bytes = (next : ℕ) → bytes ≢ frame_bytes (message.Welcome next)

-- these bytes are no Hello of a cluster of this size
abbrev pub IsNotHello : Size → List ℕ → Type 0
IsNotHello size bytes =
    (version : Version) (cluster from to : ℕ) → from < size.n → to < size.n
    → bytes ≢ frame_bytes (message.Hello version cluster size from to)

-- nor a Welcome
pub record IsNoGreeting (size : Size) (bytes : List ℕ) : Type 0 where
  pub no_welcome : IsNotWelcome bytes
  pub no_hello : IsNotHello size bytes

-- the bytes of a Hello of these numbers
abbrev pub hello_text : HelloBytes → List ℕ
hello_text it =
    0 ∷ 16 ∷ 1 ∷ it.version ∷ (to_be_bytes w64 it.cluster ++ it.n ∷ it.t ∷ (to_be_bytes w16 it.questions ++ it.from ∷ it.to ∷ []))
