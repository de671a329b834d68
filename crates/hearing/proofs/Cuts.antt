-- The parts of a piece's line are those at its first space.
use Rattle.std.proofs.Common.{ℕ, ◌≡◌, ◌∙◌, sym, List, ◌∷◌, ◌++◌}
use Rattle.numerals.specs.Spaces.{NoSpace}
use Rattle.numerals.proofs.Cuts.{digits_spaceless, one_cut}
use Rattle.hearing.specs.Pieces.{IsPiece}

-- a piece on a line has the parts of the line's cut
pub parts_of : (n : ℕ) (line digits hexes : List ℕ) (sender : ℕ) (piece : List ℕ) → line ≡ digits ++ 32 ∷ hexes → NoSpace digits → (p : IsPiece n line sender piece)
    → (p.digits ≡ digits) × (p.hexes ≡ hexes)
parts_of n line digits hexes sender piece whole none p =
    one_cut p.digits digits p.hexes hexes (digits_spaceless p.digits p.member.number.digits_are.1) none (sym p.whole ∙ whole)
