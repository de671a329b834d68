use Rattle.std.proofs.Common.{◌∙◌}
use Rattle.report.proofs.Wording.{written_as, bit_of}
use Rattle.commands.proofs.Simulating.{verdict_pieces}
use Rattle.commands.proofs.simulate.verdict_line.Goals as goal

pub returns : goal.returns
returns c = written_as c.format.result _ _ (verdict_pieces c.args.verdict.now c.from.result (c.from.ensures ∙ bit_of c.args.verdict.now.3)) c.format.ensures.ok
