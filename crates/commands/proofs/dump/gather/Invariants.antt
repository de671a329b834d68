use Rattle.std.proofs.Common.{◌≡◌, ◌++◌, List}
use Rattle.terms_prelude.specs.Terms.{Record}
use Rattle.journal.specs.Left.{HasLeft, bytes_left}
use Rattle.commands.proofs.dump.gather.Given as goal

-- of all that was left the first ones are gathered, and the others are left
abbrev pub invariant-batches : goal.invariant-batches
invariant-batches l = (left : List Record) → HasLeft l.initial.batches left → (later : List Record) × (left ≡ l.all.items ++ later) × HasLeft l.batches later

abbrev pub decreases-batches : goal.decreases-batches
decreases-batches l = bytes_left l.batches
