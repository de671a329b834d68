use Rattle.std.proofs.Common.{rules}
use Rattle.running.proofs.Tables.{first_is_table, noted_first}
use Rattle.running.proofs.refusals.count_first.Goals as goal

pub returns-clause-table : goal.returns-clause-table
returns-clause-table c =
    first_is_table c.args.places.now c.oldest-at.result c.args.now c.args.refusal c.args.caller c.requires.table c.oldest-at.ensures.0 c.requires.lacks

pub returns-clause-noted : goal.returns-clause-noted
returns-clause-noted c =
    noted_first c.args.places.now c.oldest-at.result c.args.now c.args.refusal c.args.caller c.requires.table c.oldest-at.ensures.0 c.left_of-left.result
    c.requires.lacks c.oldest-at.ensures (search (rules, c.left_of-left.ensures))
