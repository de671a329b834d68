use Rattle.std.proofs.Common.{ap, length, refl, arith}
use Rattle.wire.specs.Texts.{frame_bytes}
use Rattle.wire.specs.declared.message.Message.{Message}
use Rattle.engine.proofs.Counting.{statements_count, frame_fits}
use Rattle.engine.proofs.frames.statements_frame.Goals as goal

pub write_frame-requires : goal.write_frame-requires
write_frame-requires c =
    let count = c.in-Some.ensures.exact.0 refl in
    omega (arith, c.requires, frame_fits c.in-Ok.statements.items count.0 count.1, ap (λ (m : Message). length (frame_bytes m)) c.in-Some.ensures.some)

pub returns-in-None-clause-bad : goal.returns-in-None-clause-bad
returns-in-None-clause-bad c is statements lawful some few same =
    let as_many = statements_count c.args.bytes.now c.in-Ok.statements.items statements c.in-Ok.ensures.read.1 same in
    let has = c.in-None.ensures.exact.1 (omega (arith, some, as_many), omega (arith, few, as_many)) in
    cc has
