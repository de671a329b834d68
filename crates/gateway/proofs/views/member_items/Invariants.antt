use Rattle.std.proofs.Common.{◌≡◌, ◌++◌, drop}
use Rattle.gateway.specs.Views.{member_items}
use Rattle.gateway.proofs.views.member_items.Given as goal

-- the items so far, and those of the members that are left
abbrev pub invariant-loop-member : goal.invariant-loop-member
invariant-loop-member l = l.bytes.items ++ member_items l.member (drop l.member l.fn.views) ≡ member_items 0 l.fn.views
