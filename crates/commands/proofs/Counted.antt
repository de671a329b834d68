-- Scripts whose events are only counted.
use Rattle.std.proofs.Common.{ℕ, ◌≡◌, ◌+◌, ◌<◌, ◌≤◌, ◌^◌, false, refl, sym, ap, ◌∙◌, subst, arith, length-append, append-nil, List, [], ◌∷◌, ◌++◌, length, map, Global}
use denote.RawPtr.{null_ptr}
use Rattle.std.specs.Global.{Vec}
use Rattle.std.specs.List.{flat_map}
use Rattle.terms_prelude.specs.Terms.{Size, Record}
use Rattle.script.specs.declared.Script.{Script}
use Rattle.script.specs.Words.{TossedAct, tossed_act, SaysCluster, IsScript}
use Rattle.sim.specs.declared.events.Event.{Event}
use Rattle.sim.specs.declared.events.Mark.{Mark}
use Rattle.sim.specs.declared.cluster.Cluster.{Cluster}
use Rattle.sim.specs.declared.cluster.Outcome.{Outcome}
use Rattle.sim.specs.declared.TheConstants.{MOST_EVENTS}
use Rattle.sim.specs.Words.{Played, ClusterStandsFor, played, unplayed, and_then, last_saved, IsSimulation, Verdict, among}
use Rattle.numerals.specs.Sentences.{bit_digit}
use Rattle.report.specs.Traces.{is_skipped}
use Rattle.commands.specs.Simulations.{verdict_line, line_of_counts, simulation_text}
use Rattle.commands.specs.Counts.{CountsPlayed}
use Rattle.commands.specs.Pages.{IsOutcome}
use Rattle.commands.proofs.Simulating.{skipped-append}

-- a list, held as a Vec holds it
pub holding : {A : Type 0} → Global → (xs : List A) → length xs < 2 ^ 63 → Vec A
holding alloc xs few = record { ptr = null_ptr; len = length xs; cap = length xs; alloc = alloc; items = xs; ok = (refl, omega arith); small = few }

told_more : (script : List Event) (event : Event) (left : List TossedAct) → map tossed_act (script ++ event ∷ []) ++ left ≡ map tossed_act script ++ tossed_act event ∷ left
told_more [] event left = refl
told_more (first ∷ script) event left = ap (λ (l : List TossedAct). tossed_act first ∷ l) (told_more script event left)

pub length-told : (script : List Event) → length (map tossed_act script) ≡ length script
length-told [] = refl
length-told (event ∷ script) = let h = length-told script in omega (arith, h)

-- nothing was played yet
pub none_counted : (size : Size) (liars : List ℕ) (all : List TossedAct) (cluster : Cluster) → ClusterStandsFor (unplayed size (among liars) (λ p. false)) cluster
    → CountsPlayed size liars all all cluster 0 0
none_counted size liars all cluster stands = record {
  script = [];
  marks = [];
  saved = [];
  stands = stands;
  told_are = refl;
  marked = refl;
  each_saved = refl;
  events_are = refl;
  skips_are = refl;
}

-- one event more
pub one_counted : (alloc : Global) (size : Size) (liars : List ℕ) (all left : List TossedAct) (old new : Cluster) (event : Event) (mark : Mark) (events skips digit : ℕ)
    → ((past : Played) (saved : Vec Record) → ClusterStandsFor past old → saved.items ≡ last_saved new → ClusterStandsFor (and_then past event mark saved) new)
    → length (last_saved new) < 2 ^ 63 → digit ≡ bit_digit (is_skipped mark)
    → CountsPlayed size liars all (tossed_act event ∷ left) old events skips → CountsPlayed size liars all left new (events + 1) (skips + digit)
unfolding holding
one_counted alloc size liars all left old new event mark events skips digit stands few is so =
    let saved = holding alloc (last_saved new) few in
    record {
      script = so.script ++ event ∷ [];
      marks = so.marks ++ mark ∷ [];
      saved = so.saved ++ saved ∷ [];
      stands = stands (played size (among liars) (λ p. false) so.script so.marks so.saved) saved so.stands refl;
      told_are = told_more so.script event left ∙ so.told_are;
      marked =
          let m = length-append so.marks (mark ∷ []) in let s = length-append so.script (event ∷ []) in let h = so.marked in
          omega (arith, m, s, h);
      each_saved =
          let m = length-append so.saved (saved ∷ []) in let s = length-append so.script (event ∷ []) in let h = so.each_saved in
          omega (arith, m, s, h);
      events_are = let m = length-append so.marks (mark ∷ []) in let h = so.events_are in omega (arith, m, h);
      skips_are = let m = skipped-append so.marks (mark ∷ []) in let h = so.skips_are in omega (arith, m, h, is);
    }

-- all were played: what is printed is of a script that the text says, and of an outcome of it
pub told_whole : (alloc : Global) (text : List ℕ) (size : Size) (liars : List ℕ) (all : List TossedAct) (cluster : Cluster) (events skips : ℕ) (verdicts : Vec Verdict) (made : List ℕ)
    → length liars < 2 ^ 63 → length all ≤ MOST_EVENTS → SaysCluster text size liars all → (so : CountsPlayed size liars all [] cluster events skips)
    → IsSimulation size (among liars) (λ p. false) so.script so.marks so.saved verdicts.items
    → made ≡ flat_map verdict_line verdicts.items ++ line_of_counts events skips
    → (script : Script) × (outcome : Outcome) × IsScript text script × IsOutcome script outcome × (made ≡ simulation_text outcome)
unfolding holding
told_whole alloc text size liars all cluster events skips verdicts made short few says so simulated is =
    let told_are : map tossed_act so.script ≡ all = sym (append-nil (map tossed_act so.script)) ∙ so.told_are in
    let long = ap (λ (l : List TossedAct). length l) told_are in
    let count : length so.script ≤ MOST_EVENTS = omega (arith, long, length-told so.script, few) in
    let marked = so.marked in
    let each_saved = so.each_saved in
    let script : Script = record { size = size; liars = holding alloc liars short; events = holding alloc so.script (omega (arith, count)) } in
    let outcome : Outcome = record {
      marks = holding alloc so.marks (omega (arith, count, marked));
      verdicts = verdicts;
      saved = holding alloc so.saved (omega (arith, count, each_saved));
    } in (
      script,
      outcome,
      subst (λ (l : List TossedAct). SaysCluster text size liars l) (sym told_are) says,
      simulated,
      is ∙ (ap (λ (k : ℕ). flat_map verdict_line verdicts.items ++ line_of_counts k skips) so.events_are
          ∙ ap (λ (k : ℕ). flat_map verdict_line verdicts.items ++ line_of_counts (length so.marks) k) so.skips_are),
    )
