use Rattle.std.proofs.Common.{sym}
use Rattle.numerals.proofs.Cuts.{cut_here, spaceless}
use Rattle.numerals.proofs.spaces.split_at_space.Goals as goal

pub returns-in-Some : goal.returns-in-Some
returns-in-Some c = cut_here c.in-Some.space c.args.line.now c.in-Some.ensures.value

pub returns-in-None : goal.returns-in-None
returns-in-None c = spaceless 0 c.args.line.now (sym c.in-None.ensures.value)
