use Rattle.std.proofs.Common.{◌≡◌, ◌+◌, ◌≤◌, length, drop}
use Rattle.node.specs.Words.{grown, said_in}
use Rattle.node.proofs.marks.keep_all.Given as goal

abbrev pub invariant-loop-statement : goal.invariant-loop-statement
invariant-loop-statement l = record {
  firsts : grown l.peer l.firsts.said (said_in (drop l.statement-index l.events)) ≡ grown l.peer l.initial.firsts.said (said_in l.events);
  room : length l.events ≤ l.firsts.room + l.statement-index;
}
