use Rattle.std.proofs.Common.{◌∙◌}
use Rattle.epochs.proofs.Saying.{all_digits, digits_before}
use Rattle.epochs.proofs.turning.digits_of.Goals as goal

pub returns-in-Some-clause-all : goal.returns-in-Some-clause-all
returns-in-Some-clause-all c = c.min.ensures ∙ digits_before c.args.text.now c.in-Some.count c.in-Some.ensures

pub returns-in-None-clause-all : goal.returns-in-None-clause-all
returns-in-None-clause-all c = all_digits c.args.text.now c.in-None.ensures
