use Rattle.std.proofs.Common.{ℕ, ◌≤◌, max, drop}
use Rattle.asking.specs.Statings.{HasStatusOfAll, reply_texts, wants_ready}
use Rattle.asking.proofs.stating.tell_all.Given as goal

-- the status so far, and that of the members that are left
abbrev pub invariant-loop-reply : goal.invariant-loop-reply
invariant-loop-reply g l =
    (l.status ≤ 1)
    × ((others : ℕ) → HasStatusOfAll (wants_ready l.form) (reply_texts (drop l.reply-index l.replies)) others
    → HasStatusOfAll (wants_ready l.form) (reply_texts l.replies) (max l.status others))
