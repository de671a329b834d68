use Rattle.std.proofs.Common.{ℕ, ◌≡◌, ◌<◌, ◌||◌, drop}
use Rattle.asking.specs.Marks.{has_news, is_marked}
use Rattle.asking.proofs.known.with_news.Given as goal

-- those that are known so far, and those of the news that is left
abbrev pub invariant-loop-one : goal.invariant-loop-one
invariant-loop-one l =
    (member : ℕ) → member < 64 →
    (is_marked l.all member || has_news (drop l.one-index l.news) member) ≡ (is_marked l.known member || has_news l.news member)
