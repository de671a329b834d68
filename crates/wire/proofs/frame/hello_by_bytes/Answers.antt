use Rattle.std.proofs.Common.{◌∷◌, arith}
use Rattle.wire.specs.Looking.{hello_at}
use Rattle.wire.proofs.Telling.{IsMessage, from_places}
use Rattle.wire.proofs.Hellos.{hello_tells}
use Rattle.wire.proofs.Taking.{stop_of, whole_of}
use Rattle.wire.proofs.frame.hello_by_bytes.Goals as goal

pub returns-clause-whole : goal.returns-clause-whole
returns-clause-whole c =
    whole_of c.args.size (IsMessage c.args.size) (0 ∷ 16 ∷ 1 ∷ c.args.bytes.now) (λ x. (x.0, x.1.now)) c.hello.result (hello_at c.args.size c.args.bytes.now) c.hello.ensures
    (hello_tells c.args.size c.args.bytes.now c.recall.ensures (from_places c.args.bytes.now (λ i. omega (arith, c.type_inv.bytes i))))

pub returns-clause-stops : goal.returns-clause-stops
returns-clause-stops c =
    stop_of c.args.size (IsMessage c.args.size) (0 ∷ 16 ∷ 1 ∷ c.args.bytes.now) (λ x. (x.0, x.1.now)) c.hello.result (hello_at c.args.size c.args.bytes.now) c.hello.ensures
    (hello_tells c.args.size c.args.bytes.now c.recall.ensures (from_places c.args.bytes.now (λ i. omega (arith, c.type_inv.bytes i))))
