use Rattle.std.proofs.Common.{ℕ, ◌≡◌, ◌+◌, ◌≤◌, List, ◌++◌, drop, map}
use Rattle.terms_prelude.specs.Terms.{Size}
use Rattle.script.specs.Acts.{TossedAct, tossed_act}
use Rattle.commands.specs.Counts.{CountsPlayed}
use Rattle.commands.proofs.simulate.play_batch.Given as goal

-- those that are left were not played yet
abbrev pub invariant-loop-event : goal.invariant-loop-event
invariant-loop-event l = record {
  count : l.played ≡ l.fn.counts.events + l.event-index;
  fewer : l.skipped ≤ l.played;
  counted : (size : Size) (liars : List ℕ) (all left : List TossedAct) → CountsPlayed size liars all (map tossed_act l.events ++ left) l.initial.cluster l.fn.counts.events l.fn.counts.skipped
      → CountsPlayed size liars all (map tossed_act (drop l.event-index l.events) ++ left) l.cluster l.played l.skipped;
}
