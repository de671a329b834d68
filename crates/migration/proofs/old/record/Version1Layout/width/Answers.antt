use Rattle.migration.proofs.OldRecords.{seven}
use Rattle.migration.proofs.old.record.Version1Layout.width.Goals as goal

pub returns-clause-each : goal.returns-clause-each
returns-clause-each c = seven.fixed
