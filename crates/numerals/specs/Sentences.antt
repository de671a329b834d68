-- Words in a row.
use Rattle.std.specs.Prelude.{ℕ, Bool, true, false, List, [], ◌∷◌, ◌++◌, map}
use denote.Ref.{Bor}

-- words, with a space between each two
abbrev pub sentence : List (List ℕ) → List ℕ
sentence [] = []
sentence (word ∷ []) = word
sentence (word ∷ next ∷ words) = word ++ 32 ∷ sentence (next ∷ words)

-- the number of a bit, and its digit
abbrev pub bit_digit : Bool → ℕ
bit_digit false = 0
bit_digit true = 1

-- the bytes of words
abbrev pub texts : List (Bor (List ℕ)) → List (List ℕ)
texts words = map (λ word. word.now) words
