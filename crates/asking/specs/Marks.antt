-- Members as bits of a number: bit m is member m's.
use Rattle.std.specs.Prelude.{ℕ, ◌==◌, Bool, List}
use Rattle.std.specs.Int.{bit_at}
use Rattle.std.specs.List.{list_any}
use Rattle.asking.specs.declared.board.News.{News}

-- the member is among them
abbrev pub is_marked : ℕ → ℕ → Bool
is_marked marks member = bit_at marks member == 1

-- there is news of the member
abbrev pub has_news : List News → ℕ → Bool
has_news news member = list_any (λ one. one.member == member) news
