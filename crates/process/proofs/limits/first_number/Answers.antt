use Rattle.process.proofs.Numbers.{first_word, no_word}
use Rattle.process.proofs.limits.first_number.Goals as goal

pub returns-in-Some-clause-exact : goal.returns-in-Some-clause-exact
returns-in-Some-clause-exact c = λ first is.
    c.number.ensures.exact first (first_word c.args.text.now c.in-Some.word.now c.in-Some.field-0-1.now first c.in-Some.ensures.0 c.in-Some.ensures.1 is)

pub returns-in-None-clause-exact : goal.returns-in-None-clause-exact
returns-in-None-clause-exact c = λ first is. absurd (no_word c.args.text.now first c.in-None.ensures is)
