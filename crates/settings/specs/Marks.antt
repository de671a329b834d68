-- Texts without a mark.
use Rattle.std.specs.Prelude.{ℕ, ◌≢◌, List, [], ◌∷◌}

-- no byte is the mark
abbrev pub LacksMark : ℕ → List ℕ → Type 0
LacksMark mark [] = Unit {0}
LacksMark mark (c ∷ cs) = (c ≢ mark) × LacksMark mark cs
