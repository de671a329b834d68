use Rattle.std.proofs.Common.{◌≡◌, ◌+◌, drop}
use Rattle.commands.specs.TextLines.{above_table, texts}
use Rattle.commands.proofs.text_lines.above_table.Given as goal

-- the lines so far, and those above the table among the lines that are left, are all above it
abbrev pub invariant-loop-index : goal.invariant-loop-index
invariant-loop-index l = l.index + above_table (texts (drop l.index l.lines)) ≡ above_table (texts l.lines)
