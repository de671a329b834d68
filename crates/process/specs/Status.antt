-- Texts of the system with a line for each fact.
use Rattle.std.specs.Prelude.{ℕ, ◌==◌, cond, List, [], ◌∷◌, Option, Some, None}

-- what stands behind the head, if the line begins with it
abbrev pub rest_of : List ℕ → List ℕ → Option (List ℕ)
rest_of [] line = Some line
rest_of (byte ∷ head) [] = None
rest_of (byte ∷ head) (first ∷ line) = cond (byte == first) (rest_of head line) None

-- the first, if that is one
abbrev pub first_or : Option (List ℕ) → Option (List ℕ) → Option (List ℕ)
first_or (Some rest) other = Some rest
first_or None other = other

-- what stands behind the head in the first line that begins with it
abbrev pub first_with : List ℕ → List (List ℕ) → Option (List ℕ)
first_with head [] = None
first_with head (line ∷ lines) = first_or (rest_of head line) (first_with head lines)
