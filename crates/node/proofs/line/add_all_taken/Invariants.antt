use Rattle.std.proofs.Common.{◌≡◌, ◌+◌, ◌≤◌, length, drop}
use Rattle.member.specs.Groups.{hearings, replies_of}
use Rattle.node.specs.Words.{lengthened_all}
use Rattle.node.proofs.line.add_all_taken.Given as goal

abbrev pub invariant-loop-from : goal.invariant-loop-from
invariant-loop-from l = record {
  entries : lengthened_all l.history.entries (hearings (drop (length l.yielded) l.group)) (replies_of (drop (length l.yielded) l.answers))
      ≡ lengthened_all l.initial.history.entries (hearings l.group) (replies_of l.answers);
  room : length l.group ≤ l.history.room + length l.yielded;
}
