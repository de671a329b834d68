-- Which ask is which.
use Rattle.std.proofs.Common.{ℕ, ◌≡◌, ◌<◌, ◌≤◌, ◌==◌, Bool, true, false, cond, List, [], ◌∷◌, ◌++◌, length, get_or, None, refl, sym, ap, ◌∙◌, subst, arith, rules, tests}
use Rattle.std.specs.List.{Contains, position, remove}
use Rattle.std.proofs.lemmas.List.Sums.{fails_before_first, sum_by_push, sum_by-remove}
use Rattle.std.proofs.lemmas.Bool.{eqb-true}
use Rattle.chain.specs.declared.opening.Ask.{Ask}
use Rattle.epochs.specs.Asking.{is_ask, place_of, asks_by, HasFewAsks}
use Rattle.epochs.specs.declared.asks.TheConstants.{ASKS}

pub is_ask-itself : (ask : Ask) → is_ask ask ask ≡ true
is_ask-itself ask = grind (arith, tests)

pub is_ask-same : (ask one : Ask) → is_ask ask one ≡ true → one ≡ ask
is_ask-same ask one same = search (rules, tests, same)

pub position-None : {X : Type 0} (p : X → Bool) (xs : List X) (k : ℕ) (d : X) → position p xs ≡ None → k < length xs → p (get_or xs k d) ≡ false
position-None p xs k d none within = fails_before_first p xs k d (grind (arith, tests))

-- an ask that has no place doesn't stand
pub not_placed : (asks : List Ask) (ask : Ask) → place_of asks ask ≡ None → Contains asks ask → ⊥
not_placed asks ask none (at, within, is) =
    let fails = position-None (is_ask ask) asks at ask none within in
    let passes = ap (is_ask ask) is ∙ is_ask-itself ask in
    cc

-- how many the ask is among those of a peer
abbrev one_of : ℕ → Ask → ℕ
one_of peer ask = cond (ask.peer == peer) 1 0

pub few-same : (asks same : List Ask) → same ≡ asks → HasFewAsks asks → HasFewAsks same
few-same asks same is few = subst HasFewAsks (sym is) few

pub few-pushed : (asks more : List Ask) (ask : Ask) → asks_by asks ask.peer < ASKS → HasFewAsks asks → more ≡ asks ++ ask ∷ [] → HasFewAsks more
few-pushed asks more ask room few is peer = by (ask.peer == peer) refl where
  by : (b : Bool) → (ask.peer == peer) ≡ b → asks_by more peer ≤ ASKS
  by true same =
      let before = subst (λ p. asks_by asks p < ASKS) (eqb-true ask.peer peer same) room in
      let one = ap {B = ℕ} (λ (b : Bool). cond b 1 0) same in
      let count = ap (λ l. asks_by l peer) is ∙ sum_by_push (one_of peer) asks ask in
      omega (arith, before, one, count)
  by false other =
      let before = few peer in
      let one = ap {B = ℕ} (λ (b : Bool). cond b 1 0) other in
      let count = ap (λ l. asks_by l peer) is ∙ sum_by_push (one_of peer) asks ask in
      omega (arith, before, one, count)

pub few-removed : (asks less : List Ask) (at : ℕ) → at < length asks → HasFewAsks asks → less ≡ remove asks at → HasFewAsks less
few-removed [] less at within few is peer = absurd (omega (arith, within))
few-removed (ask ∷ asks) less at within few is peer =
    let count = sum_by-remove (one_of peer) (ask ∷ asks) at ask within in
    let same = ap (λ l. asks_by l peer) is in
    let before = few peer in
    omega (arith, count, same, before)
