use Rattle.report.proofs.Wording.{written_as}
use Rattle.commands.proofs.Simulating.{count_pieces}
use Rattle.commands.proofs.simulate.count_line.Goals as goal

pub returns : goal.returns
returns c = written_as c.format.result _ _ (count_pieces c.args.counts.events c.args.counts.skipped) c.format.ensures.ok
