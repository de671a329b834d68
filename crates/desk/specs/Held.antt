-- How bytes make a line.
use Rattle.std.specs.Prelude.{ℕ, ◌≡◌, ◌==◌, ◌<◌, ◌≤◌, false, List, [], ◌∷◌, ◌++◌, length}
use Rattle.desk.specs.declared.held.LineStep.{LineStep}
use Rattle.desk.specs.declared.held.LineStep.TheVariants.{More, Ends, TooLong}

-- what a byte does to the line that is held, and what is held then
abbrev pub ReadsByte : List ℕ → ℕ → LineStep → List ℕ → Type 0
ReadsByte held byte More new = ((byte == 10) ≡ false) × (length held < 4096) × (new ≡ held ++ byte ∷ [])
ReadsByte held byte Ends new = (byte ≡ 10) × (new ≡ held)
ReadsByte held byte TooLong new = ((byte == 10) ≡ false) × (4096 ≤ length held) × (new ≡ held)
