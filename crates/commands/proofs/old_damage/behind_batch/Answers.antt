use Rattle.std.proofs.Common.{rules}
use Rattle.commands.proofs.OldBatches.{batch_alone, no_batch_alone}
use Rattle.commands.proofs.old_damage.behind_batch.Goals as goal

pub returns-in_default-clause-none : goal.returns-in_default-clause-none
returns-in_default-clause-none c = λ none.
    c.in_default.ensures.none (search rules) c.args.header.now

pub returns-then-branch-clause-some : goal.returns-then-branch-clause-some
returns-then-branch-clause-some c =
    let some = c.in-Some.ensures.some in
    let held = c.in_ok-is_journal.ensures.yes c.if-branch.true in
    batch_alone c.args.header.now held.0 c.args.front.now c.in-Some.batch.now c.in-Some.behind.now c.args.bytes.now c.requires.front some.0 some.1 some.3 held.1

pub returns-else-branch-clause-none : goal.returns-else-branch-clause-none
returns-else-branch-clause-none c = λ none.
    let some = c.in-Some.ensures.some in
    let refused = c.in_ok-is_journal.ensures.no c.if-branch.false in
    no_batch_alone c.args.header.now refused.0 c.args.front.now c.args.bytes.now c.in-Some.batch.now c.in-Some.behind.now c.requires.lawful c.requires.front some.0 some.1
    refused.1
