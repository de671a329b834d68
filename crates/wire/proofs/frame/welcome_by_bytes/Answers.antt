use Rattle.std.proofs.Common.{◌∷◌, arith}
use Rattle.wire.specs.Looking.{welcome_at}
use Rattle.wire.proofs.Telling.{IsMessage, from_places}
use Rattle.wire.proofs.Hellos.{welcome_tells}
use Rattle.wire.proofs.Taking.{stop_of, whole_of}
use Rattle.wire.proofs.frame.welcome_by_bytes.Goals as goal

pub returns-clause-whole : goal.returns-clause-whole
returns-clause-whole c =
    whole_of c.args.size (IsMessage c.args.size) (0 ∷ 9 ∷ 2 ∷ c.args.bytes.now) (λ x. (x.0, x.1.now)) c.welcome.result (welcome_at c.args.bytes.now) c.welcome.ensures
    (welcome_tells c.args.size c.args.bytes.now (from_places c.args.bytes.now (λ i. omega (arith, c.type_inv.bytes i))))

pub returns-clause-stops : goal.returns-clause-stops
returns-clause-stops c =
    stop_of c.args.size (IsMessage c.args.size) (0 ∷ 9 ∷ 2 ∷ c.args.bytes.now) (λ x. (x.0, x.1.now)) c.welcome.result (welcome_at c.args.bytes.now) c.welcome.ensures
    (welcome_tells c.args.size c.args.bytes.now (from_places c.args.bytes.now (λ i. omega (arith, c.type_inv.bytes i))))
