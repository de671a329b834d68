use Rattle.std.proofs.Common.{ℕ, ◌≡◌, ◌≤◌, ◌<◌, length}
use Rattle.member.specs.Words.{member_saved, verdict_of}
use Rattle.node.specs.Books.{decided_below}
use Rattle.node.specs.Words.{known_at}
use Rattle.node.proofs.tally.Tally.of.Given as goal

abbrev pub invariant-loop-question : goal.invariant-loop-question
invariant-loop-question g l = record {
  count : length l.verdicts.items ≡ l.question;
  each : (q : ℕ) → q < l.question → known_at l.verdicts.items q ≡ verdict_of (member_saved l.member) q;
  decided : l.decided ≡ decided_below l.question (member_saved l.member);
  few : l.decided ≤ l.question;
}
