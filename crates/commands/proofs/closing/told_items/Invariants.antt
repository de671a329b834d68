use Rattle.std.proofs.Common.{◌≡◌, ◌++◌, drop, string_bytes}
use Rattle.commands.specs.Closings.{told_items}
use Rattle.commands.proofs.closing.told_items.Given as goal

-- the objects so far, and those of the members that are left
abbrev pub invariant-loop-member : goal.invariant-loop-member
invariant-loop-member l =
    string_bytes l.text ++ told_items l.member (drop l.member l.fn.told) ≡ told_items 0 l.fn.told
