-- How a run of calls goes on.
use Rattle.std.proofs.Common.{inl, inr, ⊎_elim, ℕ, ◌≤◌, List, Result, arith}
use Rattle.disk.specs.Model.{State, MayLeave, Elapses, LeavesOnly}

-- no call goes back in time
time_later : {T E : Type 0} {before now : ℕ} {past since : ℕ → List ℕ → Type 0} {old new : State} {result : Result T E} → Elapses before now past since old new result → before ≤ now
time_later time = ⊎_elim (λ one. omega (arith, one)) (λ none. omega (arith, none.0)) time.counted

module _ {D : Type 0} (moment : D → ℕ) (since : D → ℕ → List ℕ → Type 0) (state : D → State) where
  -- before the first call
  pub started : (old : D) (P : List ℕ → Type 0) → ((file : List ℕ) → since old (moment old) file → P file) → LeavesOnly moment since old old P
  started old P here = record { later = omega arith; each = here; before = λ t file le left. inl left }

  -- one call more, after which a crash leaves what has P
  pub goes_on : {T E : Type 0} (old mid new : D) (P : List ℕ → Type 0) (result : Result T E) → LeavesOnly moment since old mid P → Elapses (moment mid) (moment new) (since mid) (since new) (state mid) (state new) result
      → ((file : List ℕ) → MayLeave (state new) file → P file) → LeavesOnly moment since old new P
  goes_on old mid new P result so_far time here = record {
    later = omega (arith, so_far.later, time_later time);
    each = λ file left. ⊎_elim (so_far.each file) (here file) (time.nothing_else (moment old) file so_far.later left);
    before = λ t file le left. ⊎_elim (so_far.before t file le) (λ now. inr (here file now)) (time.nothing_else t file (omega (arith, le, so_far.later)) left);
  }

-- what has P has Q
pub leaves_more : {D : Type 0} {moment : D → ℕ} {since : D → ℕ → List ℕ → Type 0} {old new : D} {P : List ℕ → Type 0} (Q : List ℕ → Type 0) → ((file : List ℕ) → P file → Q file) → LeavesOnly moment since old new P → LeavesOnly moment since old new Q
leaves_more Q more leaves = record {
  later = leaves.later;
  each = λ file left. more file (leaves.each file left);
  before = λ t file le left. ⊎_elim (λ was. inl was) (λ now. inr (more file now)) (leaves.before t file le left);
}
