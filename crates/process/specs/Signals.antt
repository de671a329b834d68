-- Masks of signals in /proc/self/status.
use Rattle.std.specs.Prelude.{ℕ, ◌≡◌, ◌==◌, ◌||◌, ◌/◌, ◌%◌, Bool, true, false, List, [], ◌∷◌, IsSomeAnd}
use Rattle.numerals.specs.Numbers.{IsHexOf}
use Rattle.commands.specs.TextLines.{lines_in}
use Rattle.process.specs.Status.{first_with}

-- the mask has SIGTERM, bit 14 of its eight bytes, or SIGINT, bit 1; the greatest byte stands first
abbrev pub has_stop : List ℕ → Bool
has_stop (a ∷ b ∷ c ∷ d ∷ e ∷ f ∷ high ∷ low ∷ []) = ((high / 64) % 2 == 1) || ((low / 2) % 2 == 1)
has_stop other = false

-- the first line with this head has such a mask, in hexadecimal digits
abbrev pub SaysStop : List ℕ → List ℕ → Type 0
SaysStop head status = IsSomeAnd (first_with head (lines_in status)) (λ digits. (mask : List ℕ) × IsHexOf digits mask × (has_stop mask ≡ true))
