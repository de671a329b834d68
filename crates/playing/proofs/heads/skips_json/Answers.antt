use Rattle.report.proofs.Wording.{written_as}
use Rattle.playing.proofs.Joining.{skips_are}
use Rattle.playing.proofs.heads.skips_json.Goals as goal

pub returns : goal.returns
returns c =
    written_as c.format.result _ _
    (skips_are c.args.marks.now c.count_for.result c.count_for-2.result c.count_for-3.result c.count_for-4.result c.count_for-5.result
    c.count_for.ensures c.count_for-2.ensures c.count_for-3.ensures c.count_for-4.ensures c.count_for-5.ensures)
    c.format.ensures.ok
