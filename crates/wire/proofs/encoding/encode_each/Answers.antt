use Rattle.wire.proofs.Spelling.{none_written}
use Rattle.wire.proofs.encoding.encode_each.Goals as goal

pub loop-statement-init : goal.loop-statement-init
loop-statement-init c = none_written c.args.out.now.items c.args.many.now
