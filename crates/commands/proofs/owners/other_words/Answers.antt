use Rattle.commands.proofs.Owning.{other_pieces}
use Rattle.report.proofs.Wording.{written_as}
use Rattle.commands.proofs.owners.other_words.Goals as goal

pub returns : goal.returns
returns c =
    written_as c.format.result _ _
    (other_pieces c.args.found.now c.args.asked.now _ _ _ c.in_ok-header_words.ensures c.in_ok-header_words-2.ensures c.in_ok-differences.ensures)
    c.format.ensures.ok
