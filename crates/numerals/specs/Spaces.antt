-- Spaces between words.
use Rattle.std.specs.Prelude.{ℕ, ◌≡◌, ◌==◌, Bool, false, List, [], ◌∷◌}

abbrev pub is_space : ℕ → Bool
is_space byte = byte == 32

-- no byte is a space
abbrev pub NoSpace : List ℕ → Type 0
NoSpace [] = Unit {0}
NoSpace (byte ∷ bytes) = (is_space byte ≡ false) × NoSpace bytes
