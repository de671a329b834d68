use Rattle.std.proofs.Common.{rules}
use Rattle.commands.specs.OldDamage.{BeginsWithOldBatch}
use Rattle.commands.proofs.OldBatches.{skip_one}
use Rattle.commands.proofs.old_damage.behind_batches.Goals as goal

pub loop-behind-preserved : goal.loop-behind-preserved
loop-behind-preserved c = λ rest skipped.
    let first : BeginsWithOldBatch c.args.header.now c.loop-behind.rest.now c.in-Some.behind.now = search (rules, c.in_ok-behind.ensures.some, c.in-Some.is) in
    c.loop-behind.invariant rest (skip_one c.args.header.now c.loop-behind.rest.now c.in-Some.behind.now rest first skipped)
