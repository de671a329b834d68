-- What lay under the bytes that were written.
use Rattle.std.specs.Prelude.{ℕ, List, [], ◌∷◌, slice_set}

-- the file with each of these bytes at its place, the first of them laid last
abbrev pub laid_back : List (ℕ × ℕ) → List ℕ → List ℕ
laid_back [] file = file
laid_back (one ∷ under) file = slice_set (laid_back under file) one.0 one.1
