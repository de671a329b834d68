use Rattle.std.proofs.Common.{length}
use Rattle.report.proofs.Wording.{written_as}
use Rattle.playing.proofs.Joining.{counts_are}
use Rattle.playing.proofs.heads.counts_json.Goals as goal

pub returns : goal.returns
returns c =
    written_as c.format.result _ _
    (counts_are c.args.marks.now (length c.args.marks.now) c.left_out.result _ c.left_out.ensures c.in_ok-skips_json.ensures)
    c.format.ensures.ok
