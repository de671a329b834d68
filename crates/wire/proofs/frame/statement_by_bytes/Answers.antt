use Rattle.std.proofs.Common.{[], ◌∷◌, ◌++◌, arith}
use Rattle.wire.specs.Looking.{spelled_at}
use Rattle.wire.proofs.Telling.{from_places}
use Rattle.wire.proofs.Statements.{IsStatementBehind, spelled_tells}
use Rattle.wire.proofs.Frames.{statement_precedes}
use Rattle.wire.proofs.Taking.{stop_of, whole_of, without_front}
use Rattle.wire.proofs.frame.statement_by_bytes.Goals as goal

pub returns-clause-whole : goal.returns-clause-whole
returns-clause-whole c =
    without_front c.args.size (0 ∷ 8 ∷ 3 ∷ []) c.args.bytes.now (λ x. (x.0, x.1.now)) c.spelled.result
    (whole_of c.args.size (IsStatementBehind c.args.size (0 ∷ 8 ∷ 3 ∷ [])) (0 ∷ 8 ∷ 3 ∷ c.args.bytes.now) (λ x. (x.0, x.1.now)) c.spelled.result (spelled_at c.args.size c.args.bytes.now) c.spelled.ensures
    (spelled_tells c.args.size (0 ∷ 8 ∷ 3 ∷ []) c.args.bytes.now (statement_precedes c.args.size) c.recall.ensures (from_places c.args.bytes.now (λ i. omega (arith, c.type_inv.bytes i)))))

pub returns-clause-stops : goal.returns-clause-stops
returns-clause-stops c =
    λ front precedes. stop_of c.args.size (IsStatementBehind c.args.size front) (front ++ c.args.bytes.now) (λ x. (x.0, x.1.now)) c.spelled.result (spelled_at c.args.size c.args.bytes.now) c.spelled.ensures
    (spelled_tells c.args.size front c.args.bytes.now precedes c.recall.ensures (from_places c.args.bytes.now (λ i. omega (arith, c.type_inv.bytes i))))
