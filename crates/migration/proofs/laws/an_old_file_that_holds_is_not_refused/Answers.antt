use Rattle.migration.proofs.OldRefused.{not_refused}
use Rattle.migration.proofs.laws.an_old_file_that_holds_is_not_refused.Goals as goal

pub returns : goal.returns
returns c header records fault file holds refuses = not_refused header records fault file holds refuses
