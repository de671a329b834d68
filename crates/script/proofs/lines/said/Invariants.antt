use Rattle.std.proofs.Common.{◌≡◌, ◌+◌, ◌++◌, drop}
use Rattle.script.specs.Words.{said_from, texts, numbered}
use Rattle.script.proofs.lines.said.Given as goal

-- what was found and what is left to find is all
abbrev pub invariant-loop-index : goal.invariant-loop-index
invariant-loop-index l =
    numbered l.said.items ++ said_from (l.index + 1) (texts (drop l.index l.parts)) ≡ said_from 1 (texts l.parts)
