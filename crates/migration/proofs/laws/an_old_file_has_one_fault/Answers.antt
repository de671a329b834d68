use Rattle.migration.proofs.OldRefused.{one_fault}
use Rattle.migration.proofs.laws.an_old_file_has_one_fault.Goals as goal

pub returns : goal.returns
returns c header fault other file refuses refuses' = one_fault header fault other file refuses refuses'
