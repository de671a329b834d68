use Rattle.std.proofs.Common.{◌≡◌, string_bytes}
use Rattle.chances.specs.Lines.{round_lines}
use Rattle.chances.proofs.lines.round_lines.Given as goal

-- the lines so far
abbrev pub invariant-loop-before : goal.invariant-loop-before
invariant-loop-before l = string_bytes l.text ≡ round_lines l.ends l.before
