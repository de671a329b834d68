use Rattle.std.proofs.Common.{◌≡◌, None, replicate}
use Rattle.asking.proofs.stating.Replies.new.Given as goal

-- none so far
abbrev pub invariant-loop-member : goal.invariant-loop-member
invariant-loop-member l = l.replies.items ≡ replicate l._member None
