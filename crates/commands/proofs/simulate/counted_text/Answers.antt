use Rattle.std.proofs.Common.{◌≡◌, ◌<◌, ◌^◌, ◌++◌, ◌∙◌, ℕ, Bool, false, List, length, string_bytes, sym, ap, subst, arith}
use Rattle.std.specs.List.{flat_map}
use Rattle.terms_prelude.specs.Terms.{Size}
use Rattle.sim.specs.declared.cluster.Cluster.{Cluster}
use Rattle.sim.specs.Words.{AreLiars, AreDisks, Verdict, among, fused_in, ClusterStandsFor, played, unplayed}
use Rattle.commands.specs.Simulations.{verdict_line, line_of_counts}
use Rattle.commands.proofs.Running.{unread_ends, unrun_ends, memory_ends, same_table, both_ways}
use Rattle.commands.proofs.Counted.{told_whole}
use Rattle.commands.proofs.simulate.counted_text.Goals as goal

-- the cluster that was opened, of what the source says
stood : (size said : Size) (liars listed : List ℕ) (fused : ℕ → Bool) (cluster : Cluster) → size ≡ said → liars ≡ listed → ((p : ℕ) → fused p ≡ false)
    → ClusterStandsFor (unplayed size (among liars) fused) cluster → ClusterStandsFor (unplayed said (among listed) (λ p. false)) cluster
stood size said liars listed fused cluster e f none stands =
    subst (λ (s : Size). ClusterStandsFor (unplayed s (among listed) (λ p. false)) cluster) e
    (subst (λ (l : List ℕ). ClusterStandsFor (unplayed size (among l) (λ p. false)) cluster) f
    (subst (λ (g : ℕ → Bool). ClusterStandsFor (unplayed size (among liars) g) cluster) (same_table fused (λ p. false) none) stands))

pub returns-in_err-source-clause-only : goal.returns-in_err-source-clause-only
returns-in_err-source-clause-only c =
    unread_ends c.args.text.now c.from_residual.result c.in_err-source.field-0.0 c.from_residual.ensures.1 c.in_err-source.ensures.fault

pub returns-in_err-cluster-clause-only : goal.returns-in_err-cluster-clause-only
returns-in_err-cluster-clause-only c =
    let source = c.in_ok-source.source in
    let faults = c.in_err-cluster.ensures in
    unrun_ends {B = Cluster} c.args.text.now source.size source.liars source.left c.from_residual-in_err-cluster.result c.in_err-cluster.field-0.0 c.from_residual-in_err-cluster.ensures.1
    c.in_ok-source.ensures.says
    (λ is are. faults.bad_liars.0 is (subst (λ (s : Size). AreLiars s c.liars.result.now) (sym c.size-2.ensures) (subst (λ (l : List ℕ). AreLiars source.size l) (sym c.liars.ensures) are)))
    (λ is. (faults.bad_disks.0 is).1 (subst (λ (s : Size). AreDisks s c.in_ok-disks.disks.items) (c.size.ensures ∙ sym c.size-2.ensures) c.in_ok-disks.ensures.empty))
    (λ is. let fused = faults.device is in both_ways (fused_in c.in_ok-disks.disks.items fused.0) (c.in_ok-disks.ensures.no_fuse fused.0) fused.3)
    faults.never_full

pub returns-in_err-counts-clause-only : goal.returns-in_err-counts-clause-only
returns-in_err-counts-clause-only c =
    let source = c.in_ok-source.source in
    memory_ends c.args.text.now c.from_residual-in_err-counts.result c.in_err-counts.field-0.0 c.from_residual-in_err-counts.ensures.1
    (c.in_err-counts.ensures.memory source.size source.liars
    (stood _ source.size _ source.liars (fused_in c.in_ok-disks.disks.items) c.in_ok-cluster.cluster c.size-2.ensures c.liars.ensures c.in_ok-disks.ensures.no_fuse c.in_ok-cluster.ensures.stands))

pub returns-clause-all : goal.returns-clause-all
returns-clause-all c =
    let source = c.in_ok-source.source in
    let verdicts = c.in_ok-verdicts.verdicts in
    let short : length c.liars.result.now < 2 ^ 63 = omega arith in
    let so = c.in_ok-counts.ensures.counted source.size source.liars
    (stood _ source.size _ source.liars (fused_in c.in_ok-disks.disks.items) c.in_ok-cluster.cluster c.size-2.ensures c.liars.ensures c.in_ok-disks.ensures.no_fuse c.in_ok-cluster.ensures.stands) in
    told_whole c.args.alloc c.args.text.now source.size source.liars source.left c.play_all.new.cluster c.in_ok-counts.counts.events c.in_ok-counts.counts.skipped verdicts
    (string_bytes c.in_ok-outcome_text.field-0) (subst (λ (l : List ℕ). length l < 2 ^ 63) c.liars.ensures short) c.in_ok-source.ensures.few c.in_ok-source.ensures.says so
    (c.in_ok-verdicts.ensures.run (played source.size (among source.liars) (λ p. false) so.script so.marks so.saved) so.stands)
    (c.in_ok-outcome_text.ensures
    ∙ ap (λ (l : List Verdict). flat_map verdict_line l ++ line_of_counts c.in_ok-counts.counts.events c.in_ok-counts.counts.skipped) c.deref.ensures.value)
