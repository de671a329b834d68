use Rattle.std.proofs.Common.{List, sym, subst}
use Rattle.terms_prelude.specs.Terms.{Record, Header}
use Rattle.migration.specs.Words.{HoldsOld, HandsOldBack, staging_draft}
use Rattle.migration.proofs.Carrying.{not_read, not_filled}
use Rattle.migration.proofs.staging.Staging.carry.Goals as goal

pub returns-in-Ok-clause-fault : goal.returns-in-Ok-clause-fault
unfolding staging_draft
returns-in-Ok-clause-fault g c =
    let file = (g.D.Disk.state c.args.old.now).seen in
    not_filled g.D.Disk g.E.Disk c.args.self c.args.old.now c.load.new.disk c.deref.result.now c.in-Err-fill.refused.0 c.in-Err-fill.refused.1
    (λ keeps. subst (λ (h : Header). HoldsOld h c.deref.result.now file) c.header.ensures (subst (λ (l : List Record). HoldsOld c.header.result l file) (sym c.deref.ensures.value) (c.in-Ok.ensures.held keeps)))
    c.in-Ok.ensures.read c.in-Err-fill.ensures.fault

pub returns-clause-fault : goal.returns-clause-fault
unfolding staging_draft
returns-clause-fault g c =
    not_read g.D.Disk g.E.Disk c.args.self c.args.old.now c.load.new.disk g.met.E.Disk.only_now c.requires.staged c.in-Err.fault c.into_disk.result c.into_disk.ensures
    (subst (λ (h : Header). HandsOldBack g.D.Disk c.args.old.now h c.in-Err.fault c.load.new.disk) c.header.ensures c.in-Err.ensures.fault)
