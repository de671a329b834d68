use Rattle.std.proofs.Common.{ℕ, ◌+◌, ◌≤◌, false, List, length}
use Rattle.terms_prelude.specs.Terms.{Size}
use Rattle.sim.specs.declared.TheConstants.{MOST_EVENTS}
use Rattle.sim.specs.Words.{ClusterStandsFor, unplayed, among}
use Rattle.commands.specs.Counts.{CountsPlayed}
use Rattle.commands.proofs.simulate.play_all.Given as goal

-- what the source has left was not played yet
abbrev pub invariant-batches : goal.invariant-batches
invariant-batches l = record {
  room : l.counts.events + length l.source.left ≤ MOST_EVENTS;
  fewer : l.counts.skipped ≤ l.counts.events;
  counted : (size : Size) (liars : List ℕ) → ClusterStandsFor (unplayed size (among liars) (λ p. false)) l.initial.cluster
      → CountsPlayed size liars l.initial.source.left l.source.left l.cluster l.counts.events l.counts.skipped;
}

abbrev pub decreases-batches : goal.decreases-batches
decreases-batches l = l.source.turns
