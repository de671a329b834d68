use Rattle.std.proofs.Common.{rules, ◌∙◌}
use Rattle.disk.proofs.Placing.{interrupted}
use Rattle.disk.proofs.named.write_some.Goals as goal

pub loop-preserved : goal.loop-preserved
loop-preserved g c =
    interrupted c.write_at-done.result c.is_interrupted.result c.is_interrupted.ensures (search (rules, c.if-not-is_interrupted.false)) c.write_at-done.ensures.err ∙ c.loop.invariant
