use Rattle.std.proofs.Common.{rules, ◌≤◌, ◌+◌, ◌*◌, length, get_or}
use Rattle.commands.proofs.OldBatches.{too_short}
use Rattle.commands.proofs.old_damage.split_batch.Goals as goal

pub returns-then-behind-records-clause-none : goal.returns-then-behind-records-clause-none
returns-then-behind-records-clause-none c = λ none header batch gate behind is same.
    let short : length c.args.bytes.now ≤ 3 + 7 * (get_or c.args.bytes.now 1 0 * 256 + get_or c.args.bytes.now 2 0) =
    search (rules, c.if-behind-records.true, c.in-len3-up.len_at_least) in
    too_short header c.args.bytes.now batch gate behind is same short
