use Rattle.std.proofs.Common.{ap, ◌∙◌}
use Rattle.commands.proofs.Owning.{long_pieces}
use Rattle.report.proofs.Wording.{written_as}
use Rattle.commands.proofs.owners.long_words.Goals as goal

pub returns : goal.returns
returns c =
    written_as c.format.result _ _
    (long_pieces c.args.header.now c.me.result c.cluster.result c.args.length c.me.ensures.value c.cluster.ensures)
    c.format.ensures.ok
