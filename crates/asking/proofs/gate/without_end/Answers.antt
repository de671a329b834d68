use Rattle.std.proofs.Common.{◌∙◌, inr}
use Rattle.asking.proofs.Endings.{ends}
use Rattle.asking.proofs.Tokens.{before_end, no_end}
use Rattle.asking.proofs.gate.without_end.Goals as goal

pub returns-in-Some-clause-line : goal.returns-in-Some-clause-line
returns-in-Some-clause-line c = inr (ends _ _ _ _ c.in-Some.ensures.cases.0 c.in-Some.ensures.cases.1)

pub returns-in-Some-clause-end : goal.returns-in-Some-clause-end
returns-in-Some-clause-end c = λ line is. c.in-Some.ensures.cases.1 ∙ before_end c.args.text.now line is

pub returns-in-None-clause-end : goal.returns-in-None-clause-end
returns-in-None-clause-end c = λ line is. absurd (no_end c.args.text.now line c.in-None.ensures.cases is)
