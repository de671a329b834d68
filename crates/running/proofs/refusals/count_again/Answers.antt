use Rattle.running.proofs.Tables.{noted_again, stays_table}
use Rattle.running.proofs.refusals.count_again.Goals as goal

pub returns-clause-table : goal.returns-clause-table
returns-clause-table c =
    stays_table c.args.places.now c.args.at c.args.kept.now c.args.now c.args.caller c.come_again-line.result.0 c.come_again-line.result.1
    c.requires.table c.requires.within c.requires.kept c.come_again-line.ensures.soon c.come_again-line.ensures.due

pub returns-clause-noted : goal.returns-clause-noted
returns-clause-noted c =
    noted_again c.args.places.now c.args.at c.args.kept.now c.args.now c.args.caller c.come_again-line.result.0 c.come_again-line.result.1
    c.requires.table c.requires.within c.requires.kept c.come_again-line.ensures.soon c.come_again-line.ensures.due
