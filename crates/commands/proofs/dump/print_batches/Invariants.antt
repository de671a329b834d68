use Rattle.std.proofs.Common.{◌≡◌, ◌++◌, List}
use Rattle.std.specs.Io.KnownBytes.{Appends}
use Rattle.terms_prelude.specs.Terms.{Record}
use Rattle.journal.specs.Left.{HasLeft, bytes_left}
use Rattle.commands.specs.Dumps.{records_text}
use Rattle.commands.proofs.dump.print_batches.Given as goal

-- of all that was left the first ones are written, and the others are left
abbrev pub invariant-batches : goal.invariant-batches
invariant-batches g l =
    (left : List Record) → HasLeft l.initial.batches left →
    (done later : List Record) × (left ≡ done ++ later) × HasLeft l.batches later × Appends (g.W.Write.contents l.initial.output) (g.W.Write.contents l.output) (records_text l.form done)

abbrev pub decreases-batches : goal.decreases-batches
decreases-batches g l = bytes_left l.batches
