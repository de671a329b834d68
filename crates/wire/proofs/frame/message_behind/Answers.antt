use Rattle.std.proofs.Common.{[], ◌∷◌}
use Rattle.wire.proofs.Frames.{statement_precedes}
use Rattle.wire.proofs.Taking.{read_all}
use Rattle.wire.proofs.frame.message_behind.Goals as goal

pub returns-in-Err-clause-stops : goal.returns-in-Err-clause-stops
returns-in-Err-clause-stops c =
    let stops = c.in-Err.ensures.stops (0 ∷ 8 ∷ 3 ∷ []) (statement_precedes c.args.size) in rw c.in-Statement.is (rw c.in-Err.stop-is at stops)

pub returns-in-Ok-statements-clause-whole : goal.returns-in-Ok-statements-clause-whole
returns-in-Ok-statements-clause-whole c =
    rw c.in-Statements.is (read_all c.args.size c.in-Statements.count c.args.bytes.now c.in-Ok-statements.rest.now c.in-Ok-statements.many c.in-Ok-statements.ensures.whole)
