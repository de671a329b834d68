use Rattle.commands.proofs.Migrating.{migrated, not_begun, not_migrated, still_untouched, unread}
use Rattle.commands.proofs.migrate.bring_over.Goals as goal

pub returns-in-Err-carry-clause-fault : goal.returns-in-Err-carry-clause-fault
returns-in-Err-carry-clause-fault g c =
    not_migrated g.D.Disk g.E.Disk c.args.old.now c.peek_old.new.disk c.args.new c.in-Ok.header c.in-Ok-stage.staging
    c.in-Ok.ensures.kept c.in-Ok.ensures.same c.in-Ok-stage.ensures.begun
    c.in-Err-carry.refused.0 c.in-Err-carry.refused.1 c.carry.new.old c.in-Ok.ensures.later c.in-Ok.ensures.header c.in-Err-carry.ensures.fault
