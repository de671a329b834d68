use Rattle.migration.proofs.Carrying.{filled, not_completed, not_added}
use Rattle.migration.proofs.staging.fill.Goals as goal

pub returns-in-Ok-complete-clause-filled : goal.returns-in-Ok-complete-clause-filled
returns-in-Ok-complete-clause-filled g c =
    filled g.E.Disk c.args.draft c.args.records.now c.requires.drafted c.add_all.new.draft c.in-Ok.ensures.grown c.in-Ok-complete.journal c.in-Ok-complete.ensures.completed

pub returns-in-Err-complete-clause-fault : goal.returns-in-Err-complete-clause-fault
returns-in-Err-complete-clause-fault g c =
    not_completed g.E.Disk c.args.draft c.args.records.now c.requires.drafted c.add_all.new.draft c.in-Ok.ensures.grown c.in-Err-complete.disk c.in-Err-complete.ensures.fault

pub returns-in-Err-clause-fault : goal.returns-in-Err-clause-fault
returns-in-Err-clause-fault g c =
    not_added g.E.Disk c.args.draft c.args.records.now c.requires.drafted c.add_all.new.draft c.in-Err.fault c.into_disk.result c.into_disk.ensures c.in-Err.ensures.fault
