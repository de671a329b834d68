use Rattle.std.proofs.Common.{◌≡◌, ◌++◌, drop}
use Rattle.commands.specs.Closings.{told_lines}
use Rattle.commands.proofs.closing.told_lines.Given as goal

-- the lines so far, and those of the members that are left
abbrev pub invariant-loop-member : goal.invariant-loop-member
invariant-loop-member l =
    l.text.items ++ told_lines l.member (drop l.member l.fn.told) ≡ told_lines 0 l.fn.told
