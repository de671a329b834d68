-- What orders stand for, and how many events that is.
use Rattle.std.proofs.Common.{ℕ, ◌≡◌, ◌+◌, ◌*◌, ◌-◌, ◌<◌, ◌≤◌, ◌^◌, min, refl, sym, ap, ◌∙◌, subst, arith, inl, inr, ◌⊎◌, List, [], ◌∷◌, ◌++◌, length, drop, Result, Ok, Err, IfOk}
use Rattle.terms_prelude.specs.Terms.{Size}
use Rattle.sim.specs.declared.TheConstants.{MOST_EVENTS}
use Rattle.script.specs.Words.{ScriptFault, Line, Order, words_of, ScriptStep, SaysStep, Once, Rounds, Random, Fair, Made, after_step, cast_of, how_many, LeadsBy, BreakBy, numbered, order_step, made_by}
use Rattle.script.specs.declared.fault.ScriptFault.TheVariants as faults
use Rattle.script.proofs.Counting.{length-add, length-rounds, length-draws, length-fairs, uncut}
use Rattle.script.proofs.Leading.{Reached, line_at, reached_start, reached_next, broken_or_refused}

-- how many events there are behind a step
pub length-after_step : (size : Size) (correct : List ℕ) (step : ScriptStep) (made : Made)
    → length (after_step size correct step made).events ≡ length made.events + how_many (length correct) step
length-after_step size correct (Once act) made = length-add act made
length-after_step size correct (Rounds k) made = length-rounds k correct made
length-after_step size correct (Random k) made = length-draws size k made
length-after_step size correct (Fair left network) made = length-fairs (cast_of size correct) left network made

-- one order more
pub made_more : (size : Size) (correct : List ℕ) (orders : List Order) (order : Order) (made : Made)
    → made_by size correct (orders ++ order ∷ []) made ≡ after_step size correct (order_step order) (made_by size correct orders made)
made_more size correct [] order made = refl
made_more size correct (first ∷ orders) order made = made_more size correct orders order (after_step size correct (order_step first) made)

-- a number of rounds that was counted
pub rounds_counted : (have k members links sat : ℕ) (r : Result ℕ ScriptFault)
    → links ≡ min (members * members) (2 ^ 64 - 1) → sat ≡ min (k * links) (2 ^ 64 - 1)
    → IfOk r (λ all. (all ≡ have + sat) × (all ≤ MOST_EVENTS)) → IfOk r (λ all. (all ≡ have + k * (members * members)) × (all ≤ MOST_EVENTS))
rounds_counted have k members links sat (Ok all) e f h =
    let whole = uncut have k (members * members) links sat e f (omega (arith, h.0, h.1)) in
    (h.0 ∙ ap (λ (x : ℕ). have + x) whole, h.1)
rounds_counted have k members links sat (Err x) e f h = tt

-- the lines up to an index say these orders, which stand for so many events
pub record ReadSoFar (size : Size) (correct : List ℕ) (start : Made) (lines : List Line) (i : ℕ) (orders : List Order) (count : ℕ) : Type 0 where
  pub reached : Reached size correct start (numbered lines) (made_by size correct orders start) (numbered (drop i lines))
  pub counted : length (made_by size correct orders start).events ≡ count

module _ (size : Size) (correct : List ℕ) (start : Made) (lines : List Line) where
  pub none_read : start.events ≡ [] → ReadSoFar size correct start lines 0 [] 0
  none_read e = record { reached = reached_start size correct start lines; counted = ap (λ (l : List _). length l) e }

  module _ (i : ℕ) (d : Line) (orders : List Order) (count : ℕ) (lt : i < length lines) (so : ReadSoFar size correct start lines i orders count) where
    abbrev now : Made
    now = made_by size correct orders start

    length_behind : (order : Order) → length (after_step size correct (order_step order) now).events ≡ count + how_many (length correct) (order_step order)
    length_behind order = length-after_step size correct (order_step order) now ∙ ap (λ (k : ℕ). k + how_many (length correct) (order_step order)) so.counted

    -- one line more
    pub one_read : (order : Order) (more : List Order) (all : ℕ) → SaysStep (words_of (line_at lines i d).1) (order_step order)
        → all ≡ count + how_many (length correct) (order_step order) → all ≤ MOST_EVENTS → more ≡ orders ++ order ∷ []
        → ReadSoFar size correct start lines (i + 1) more all
    one_read order more all says sum few are =
        let next : Made = after_step size correct (order_step order) now in
        let long : length next.events ≡ all = length_behind order ∙ sym sum in
        let leads : LeadsBy size correct now (line_at lines i d) next = (order_step order, says, record { there = refl; few = omega (arith, long, few) }) in
        let there : made_by size correct more start ≡ next = ap (λ (l : List Order). made_by size correct l start) are ∙ made_more size correct orders order start in
        record {
          reached = subst (λ (m : Made). Reached size correct start (numbered lines) m (numbered (drop (i + 1) lines))) (sym there)
              (reached_next size correct start lines i d now next lt leads so.reached);
          counted = ap (λ (m : Made). length m.events) there ∙ long;
        }

    -- a line that says nothing
    pub not_read : (fault : ScriptFault)
        → (fault ≡ faults.Memory) ⊎ (((step : ScriptStep) → SaysStep (words_of (line_at lines i d).1) step → ⊥) × (fault ≡ faults.Line (line_at lines i d).0))
        → (fault ≡ faults.Memory) ⊎ BreakBy size correct start (numbered lines) fault
    not_read fault (inl e) = inl e
    not_read fault (inr none) = broken_or_refused size correct start lines i d now fault lt (inr (inl none)) so.reached

    -- a line with which there are too many events
    pub too_many : (order : Order) (fault : ScriptFault) → SaysStep (words_of (line_at lines i d).1) (order_step order)
        → (MOST_EVENTS < count + how_many (length correct) (order_step order)) × (fault ≡ faults.Events)
        → (fault ≡ faults.Memory) ⊎ BreakBy size correct start (numbered lines) fault
    too_many order fault says over =
        let long = length_behind order in
        broken_or_refused size correct start lines i d now fault lt (inr (inr (order_step order, says, (omega (arith, long, over.0), over.1)))) so.reached
