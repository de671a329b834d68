-- How much of a file is read.
use Rattle.std.specs.Prelude.{ℕ}
use Rattle.troubles.specs.declared.reading.Text.{Text}
use Rattle.troubles.specs.declared.reading.Text.TheVariants as text

-- the most bytes of such a text
abbrev pub most_of : Text → ℕ
most_of text.Settings = 1048576
most_of text.Transcript = 33554432
most_of text.Script = 33554432
