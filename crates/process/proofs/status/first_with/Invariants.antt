use Rattle.std.specs.Prelude.{◌≡◌, drop}
use Rattle.commands.specs.TextLines.{texts}
use Rattle.process.specs.Status.{first_with}
use Rattle.process.proofs.status.first_with.Given as goal

-- what is left has the line of all
abbrev pub invariant-loop-line : goal.invariant-loop-line
invariant-loop-line l = first_with l.head (texts (drop l.line-index l.lines)) ≡ first_with l.head (texts l.lines)
