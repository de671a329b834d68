use Rattle.std.proofs.Common.{sym}
use Rattle.gateway.proofs.Cuts.{cut_here, markless}
use Rattle.gateway.proofs.queries.cut_at.Goals as goal

pub returns-in-Some : goal.returns-in-Some
returns-in-Some c = cut_here c.args.mark c.in-Some.place c.args.text.now c.in-Some.ensures.value

pub returns-in-None : goal.returns-in-None
returns-in-None c = markless c.args.mark 0 c.args.text.now (sym c.in-None.ensures.value)
