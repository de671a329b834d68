use Rattle.std.proofs.Common.{ℕ, ◌≡◌, Result, Ok, Err, MatchResult, List, Some, None, sym, ap, subst, refl}
use Rattle.hex.specs.declared.error.FromHexError.{FromHexError}
use Rattle.transcripts.proofs.Spelled.{sized}
use Rattle.transcripts.proofs.reading.bytes_of.Goals as goal

pub returns-in-Ok : goal.returns-in-Ok
returns-in-Ok c = λ bytes ten are is.
    let read = rw (sized c.args.digits.now bytes ten are is) at c.in-Ok.ensures.value in
    ap (λ (bs : List ℕ). Some bs) read.1

pub returns-in-Err : goal.returns-in-Err
returns-in-Err c = λ bytes ten are is.
    let read = rw (sized c.args.digits.now bytes ten are is) at c.in-Err.ensures.value in
    absurd (cc read.0)
