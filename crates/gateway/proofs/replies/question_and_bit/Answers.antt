use Rattle.std.proofs.Common.{sym}
use Rattle.numerals.proofs.Cuts.{no_cut}
use Rattle.gateway.specs.Motions.{bit_text}
use Rattle.gateway.proofs.Words.{cut_number, same_number}
use Rattle.gateway.proofs.replies.question_and_bit.Goals as goal

pub returns-in-Some-clause-exact : goal.returns-in-Some-clause-exact
returns-in-Some-clause-exact c = λ question bit are.
    let parts = cut_number c.args.words.now are.0 (bit_text bit) c.in-Some.digits.now c.in-Some.word.now question c.in-Some.ensures.0 c.in-Some.ensures.1 are.1 are.2 in
    c.number_and_bit.ensures.exact question bit (same_number c.in-Some.digits.now are.0 question parts.0 are.2) (sym parts.1)

pub returns-in-None-clause-exact : goal.returns-in-None-clause-exact
returns-in-None-clause-exact c = λ question bit are. absurd (no_cut c.args.words.now are.0 (bit_text bit) c.in-None.ensures are.1)
