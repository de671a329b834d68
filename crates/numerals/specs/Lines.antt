-- The lines of a text.
use Rattle.std.specs.Prelude.{ℕ, ◌≡◌, ◌==◌, false, if◌then◌else◌, List, [], ◌∷◌, ◌++◌}

-- a byte before the lines that follow
abbrev pub onto_line : ℕ → List (List ℕ) → List (List ℕ)
onto_line byte [] = (byte ∷ []) ∷ []
onto_line byte (line ∷ lines) = (byte ∷ line) ∷ lines

-- the lines of a text, without the byte 10 that ends each. Bytes behind the last one are a line too
abbrev pub lines_of : List ℕ → List (List ℕ)
lines_of [] = []
lines_of (byte ∷ bytes) = if byte == 10 then [] ∷ lines_of bytes else onto_line byte (lines_of bytes)

-- the words and a line's end
abbrev pub line : List ℕ → List ℕ
line words = words ++ 10 ∷ []

-- no byte ends a line
abbrev pub NoEnd : List ℕ → Type 0
NoEnd [] = Unit {0}
NoEnd (byte ∷ bytes) = ((byte == 10) ≡ false) × NoEnd bytes
