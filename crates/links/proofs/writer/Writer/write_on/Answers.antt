use Rattle.links.proofs.Writing.{nothing_yet, groups_more, writes_more}
use Rattle.links.proofs.writer.Writer.write_on.Goals as goal

pub loop-init : goal.loop-init
loop-init g c = nothing_yet c.args.self.now.version _ c.args.first

pub loop-preserved : goal.loop-preserved
loop-preserved g c = groups_more c.args.self.now.version _ _ _ c.args.first c.loop.number c.in-Ok.next c.loop.invariant c.in-Ok.ensures.ok

pub returns-in-Err : goal.returns-in-Err
returns-in-Err g c = writes_more c.args.self.now.version _ _ _ c.args.first c.loop.number c.in-Err.why c.loop.invariant c.in-Err.ensures.err
