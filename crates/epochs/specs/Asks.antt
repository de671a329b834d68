-- The asks that stand.
use Rattle.std.specs.Prelude.{ℕ, ◌+◌, ◌==◌, Bool, not, List, filter, zip, nat_le, nat_lt}
use Rattle.chain.specs.declared.opening.Ask.{Ask}
use Rattle.epochs.specs.declared.asks.Asks.{Asks}
use Rattle.epochs.specs.declared.asks.Gone.{Gone}
use Rattle.epochs.specs.declared.asks.Gone.TheVariants.{For, Before}
use Rattle.epochs.specs.declared.asks.TheConstants.{ASKING}
use Rattle.epochs.specs.Asking.{is_ask}

-- each ask that stands, and the second in which it was heard last
abbrev pub standing : Asks → List (Ask × ℕ)
standing asks = zip asks.list.items asks.heard.items

-- those but this ask
abbrev pub not_asked : Ask → List (Ask × ℕ) → List (Ask × ℕ)
not_asked ask all = filter (λ one. not (is_ask ask one.0)) all

-- those for other epochs
abbrev pub not_for : ℕ → List (Ask × ℕ) → List (Ask × ℕ)
not_for epoch all = filter (λ one. not (one.0.epoch == epoch)) all

-- those that in this second were heard within five seconds
abbrev pub heard_since : ℕ → List (Ask × ℕ) → List (Ask × ℕ)
heard_since second all = filter (λ one. nat_le second (one.1 + ASKING)) all

-- whether an ask isn't one of those to be forgotten
abbrev pub stays : Gone → (Ask × ℕ) → Bool
stays (For epoch) one = not (one.0.epoch == epoch)
stays (Before second) one = not (nat_lt one.1 second)
