use Rattle.std.proofs.Common.{rules, ◌∙◌}
use Rattle.disk.proofs.Placing.{interrupted}
use Rattle.disk.proofs.named.settle.Goals as goal

pub loop-preserved : goal.loop-preserved
loop-preserved g c =
    interrupted c.sync-done.result c.is_interrupted.result c.is_interrupted.ensures (search (rules, c.if-not-is_interrupted.false)) c.sync-done.ensures.err ∙ c.loop.invariant
