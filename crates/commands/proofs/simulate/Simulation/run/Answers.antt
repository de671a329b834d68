use Rattle.std.proofs.Common.{◌≡◌, map, sym, subst, ℕ, Bool, false, List}
use Rattle.script.specs.Acts.{tossed_act}
use Rattle.sim.specs.Outcomes.{AreLiars, IsSimulation, among, fused_in}
use Rattle.sim.specs.declared.events.Event.{Event}
use Rattle.sim.specs.declared.cluster.Outcome.{Outcome}
use Rattle.commands.proofs.Running.{unread_ends, unrun_ends, same_table, both_ways}
use Rattle.commands.proofs.simulate.Simulation.run.Goals as goal

pub returns-in_err-script-clause-only : goal.returns-in_err-script-clause-only
returns-in_err-script-clause-only c =
    unread_ends c.args.text.now c.from_residual.result c.in_err-script.field-0.0 c.from_residual.ensures.1 c.in_err-script.ensures.fault

pub returns-in_err-outcome-clause-only : goal.returns-in_err-outcome-clause-only
returns-in_err-outcome-clause-only c =
    let script = c.in_ok-script.script in
    let faults = c.in_err-outcome.ensures in
    unrun_ends {B = Outcome} c.args.text.now script.size script.liars.items (map tossed_act script.events.items) c.from_residual-in_err-outcome.result c.in_err-outcome.field-0.0 c.from_residual-in_err-outcome.ensures.1
    c.in_ok-script.ensures.says
    (λ is liars. faults.bad_liars.0 is (subst (λ (l : List ℕ). AreLiars script.size l) (sym c.deref.ensures.value) liars))
    (λ is. (faults.bad_disks.0 is).1 c.in_ok-disks.ensures.empty)
    (λ is. let fused = faults.device is in both_ways (fused_in c.in_ok-disks.disks.items fused.0) (c.in_ok-disks.ensures.no_fuse fused.0) fused.3)
    faults.never_full

pub returns-clause-run : goal.returns-clause-run
returns-clause-run c =
    let script = c.in_ok-script.script in
    let outcome = c.in_ok-outcome.outcome in
    let none : fused_in c.in_ok-disks.disks.items ≡ (λ p. false) = same_table (fused_in c.in_ok-disks.disks.items) (λ p. false) c.in_ok-disks.ensures.no_fuse in
    subst (λ (l : List ℕ). IsSimulation script.size (among l) (λ p. false) script.events.items outcome.marks.items outcome.saved.items outcome.verdicts.items) c.deref.ensures.value
    (subst (λ (l : List Event). IsSimulation script.size (among c.deref.result.now) (λ p. false) l outcome.marks.items outcome.saved.items outcome.verdicts.items) c.deref-2.ensures.value
    (subst (λ (f : ℕ → Bool). IsSimulation script.size (among c.deref.result.now) f c.deref-2.result.now outcome.marks.items outcome.saved.items outcome.verdicts.items) none
    c.in_ok-outcome.ensures.run))
