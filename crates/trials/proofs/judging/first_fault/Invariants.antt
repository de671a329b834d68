use Rattle.std.proofs.Common.{◌≡◌, drop}
use Rattle.trials.specs.Judging.{first_fault}
use Rattle.trials.proofs.judging.first_fault.Given as goal

-- with no note so far is anything wrong
abbrev pub invariant-loop-note : goal.invariant-loop-note
invariant-loop-note l = first_fault l.notes (drop l.note-index l.notes) ≡ first_fault l.notes l.notes
