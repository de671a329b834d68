use Rattle.std.proofs.lemmas.Result.{on_ok_weaker}
use Rattle.wire.proofs.Spelling.{many_written}
use Rattle.wire.proofs.encoding.encode_many.Goals as goal

pub returns-clause-ok : goal.returns-clause-ok
returns-clause-ok c =
    on_ok_weaker c.encode_each.result (many_written c.args.out.now.items _ c.encode_each.new.out.items c.args.many.now c.in_ok-encode_head.ensures.ok) c.encode_each.ensures.ok
