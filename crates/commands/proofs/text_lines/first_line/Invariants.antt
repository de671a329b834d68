use Rattle.std.specs.Prelude.{take}
use Rattle.commands.specs.TextLines.{NoLine, SaysKey, texts}
use Rattle.commands.proofs.text_lines.first_line.Given as goal

-- no line so far gives the key a value
abbrev pub invariant-loop-index : goal.invariant-loop-index
invariant-loop-index l = NoLine (SaysKey l.name) (take l.index (texts l.lines))
