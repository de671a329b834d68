use Rattle.std.proofs.Common.{◌≡◌, take, string_bytes}
use Rattle.std.specs.List.{flat_map}
use Rattle.commands.specs.Simulations.{verdict_line}
use Rattle.commands.proofs.simulate.verdict_lines.Given as goal

-- the verdicts so far have their lines
abbrev pub invariant-loop-verdict : goal.invariant-loop-verdict
invariant-loop-verdict l = string_bytes l.text ≡ flat_map verdict_line (take l.verdict-index l.verdicts)
