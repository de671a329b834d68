use Rattle.journal.proofs.Six.{six}
use Rattle.journal.proofs.layout.Version2Layout.width.Goals as goal

pub returns-clause-each : goal.returns-clause-each
returns-clause-each c = six.fixed
