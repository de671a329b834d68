use Rattle.std.proofs.Common.{ℕ, ◌≡◌, ◌+◌, ◌++◌, List, drop}
use Rattle.std.specs.Io.KnownBytes.{Appends}
use Rattle.report.specs.Traces.{trace_from, trace_text}
use Rattle.report.proofs.trace.write_trace.Given as goal

-- what is written so far, and the lines of the events that are left, are the whole
abbrev pub invariant-loop-index : goal.invariant-loop-index
invariant-loop-index g l =
    (written : List ℕ) × Appends (g.W.Write.contents l.initial.output) (g.W.Write.contents l.output) written
    × (written ++ trace_from (l.index + 1) (drop l.index l.events) (drop l.index l.marks) (drop l.index l.saved)
    ≡ trace_text l.events l.marks l.saved)
