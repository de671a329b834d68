use Rattle.commands.proofs.Owning.{owner_pieces}
use Rattle.report.proofs.Wording.{written_as}
use Rattle.commands.proofs.owners.owner_words.Goals as goal

pub returns : goal.returns
returns c =
    written_as c.format.result _ _
    (owner_pieces c.args.header.now c.me.result c.cluster.result c.args.count _ c.me.ensures.value c.cluster.ensures c.unless.ensures)
    c.format.ensures.ok
