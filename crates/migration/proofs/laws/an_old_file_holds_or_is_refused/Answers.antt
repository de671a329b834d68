use Rattle.migration.proofs.OldParsed.{holds_or_refused}
use Rattle.migration.proofs.laws.an_old_file_holds_or_is_refused.Goals as goal

pub returns : goal.returns
returns c header file lawful are = holds_or_refused header file lawful are
