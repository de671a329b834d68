-- Which epochs a member runs.
use Rattle.std.specs.Prelude.{ℕ, ◌≡◌, ◌⊎◌, ◌+◌, ◌<◌, ◌≤◌, ◌==◌, ◌&&◌, Bool, true, List}
use Rattle.std.specs.List.{list_any}
use Rattle.terms_prelude.specs.Terms.{Size, count_below}
use Rattle.chain.specs.declared.opening.Ask.{Ask}
use Rattle.chain.specs.declared.opening.Known.{Known}

-- whether the epoch is one of these
abbrev pub is_among : List ℕ → ℕ → Bool
is_among epochs epoch = list_any (λ one. one == epoch) epochs

-- whether this member asks for the epoch
abbrev pub has_asked : List Ask → ℕ → ℕ → Bool
has_asked asks epoch peer = list_any (λ ask. ask.peer == peer && ask.epoch == epoch) asks

-- whether anybody does
abbrev pub is_asked : List Ask → ℕ → Bool
is_asked asks epoch = list_any (λ ask. ask.epoch == epoch) asks

-- more than t members ask for it: one of them doesn't lie
abbrev pub IsAskedByEnough : Size → List Ask → ℕ → Type 0
IsAskedByEnough size asks epoch = size.t < count_below size.n (has_asked asks epoch)

-- it is the newest with a proposal or the one in front of it; or something of it isn't done; or a member asks for it
abbrev pub IsWanted : Known → ℕ → Type 0
IsWanted known epoch =
    (known.newest ≤ epoch) ⊎ ((is_among known.undone.now epoch ≡ true) ⊎ (is_asked known.asks.now epoch ≡ true))

-- Up to the one in front of the newest an epoch is open if it is wanted; past it, if more than t members ask for it.
pub record IsOpenEpoch (size : Size) (known : Known) (epoch : ℕ) : Type 0 where
  pub near : epoch ≤ known.newest + 1 → IsWanted known epoch
  pub far : known.newest + 1 < epoch → IsAskedByEnough size known.asks.now epoch
