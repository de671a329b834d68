use Rattle.std.proofs.Common.{refl, ◌≡◌, subst, Option, Some, None, IsSome}
use Rattle.numerals.specs.Numbers.{IsHexOf}
use Rattle.hearing.specs.Pieces.{IsMemberBelow}
use Rattle.numerals.proofs.Cuts.{no_cut}
use Rattle.hearing.proofs.Cuts.{parts_of}
use Rattle.hearing.proofs.piece.Piece.parse.Goals as goal

-- no space
pub returns-in_default : goal.returns-in_default
returns-in_default c = λ sender piece p. no_cut c.args.line.now p.digits p.hexes c.in_default.ensures p.whole

-- no number of a member
pub returns-in_default-sender : goal.returns-in_default-sender
returns-in_default-sender c = λ sender piece p.
    let e = parts_of c.args.n c.args.line.now c.in-Some.digits.now c.in-Some.hexes.now sender piece c.in-Some.ensures.0 c.in-Some.ensures.1 p in
    some_is c.sender.result (c.sender.ensures.exact sender (subst (λ ds. IsMemberBelow c.args.n ds sender) e.0 p.member)) c.in_default-sender.not-Some
  where
    some_is : {A : Type 0} (o : Option A) → IsSome o → ((x : A) → o ≡ Some x → ⊥) → ⊥
    some_is None h f = cc
    some_is (Some x) h f = f x refl

-- no bytes
pub returns-in-None : goal.returns-in-None
returns-in-None c = λ sender piece p.
    let e = parts_of c.args.n c.args.line.now c.in-Some.digits.now c.in-Some.hexes.now sender piece c.in-Some.ensures.0 c.in-Some.ensures.1 p in
    rw c.in-None.is at (c.in_ok-bytes.ensures.exact piece (subst (λ h. IsHexOf h piece) e.1 p.bytes))
