use Rattle.std.proofs.Common.{length}
use Rattle.engine.proofs.inbox.+write_statements.Given as goal

-- proposed from what the function passes where it calls itself
abbrev pub decreases-write_statements : goal.decreases-write_statements
decreases-write_statements l = length l.many.now
