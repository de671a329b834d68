use Rattle.std.proofs.Common.{inr, rules, subst}
use Rattle.std.proofs.lemmas.Result.{err_from_is_err_and}
use Rattle.disk.specs.Model.{State}
use Rattle.journal.specs.File.{RefusesFile}
use Rattle.commands.proofs.Dumping.{headless, unreadable}
use Rattle.commands.proofs.dump.look.Goals as goal

-- it has no header of this version
pub returns-in_err-header-clause-fault : goal.returns-in_err-header-clause-fault
returns-in_err-header-clause-fault g c = λ keeps.
    let p = err_from_is_err_and c.from_residual.result c.from_residual.ensures.1 in
    rw (p.1, p.2)
    (inr (headless c.in_err-header.field-0.0 (g.D.Disk.state c.args.disk.now).seen (search (rules, c.in_err-header.ensures.only))
    (λ e. c.in_err-header.ensures.bad_header keeps (search (rules, e)))
    (λ e. c.in_err-header.ensures.not_old keeps (search (rules, e)))
    (λ e. c.in_err-header.ensures.old_version keeps (search (rules, e)))))

-- the file is still as it was when the header was read
pub returns-in-Err-clause-fault : goal.returns-in-Err-clause-fault
returns-in-Err-clause-fault g c = λ keeps.
    unreadable c.in_ok-header.header c.in-Err.fault (g.D.Disk.state c.args.disk.now).seen (c.in_ok-header.ensures.header (c.in-Err.ensures.fault.kept keeps))
    (λ of. subst (λ (s : State). RefusesFile c.in_ok-header.header c.in-Err.fault s.seen) (c.in_ok-header.ensures.same (c.in-Err.ensures.fault.kept keeps))
    (c.in-Err.ensures.fault.refused keeps of))
    c.in-Err.ensures.fault.only
