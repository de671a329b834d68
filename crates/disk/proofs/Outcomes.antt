-- What a crash after a call may leave, from what it might have left before.
use Rattle.std.proofs.Common.{◌≡◌, ◌⊎◌, inl, inr, ℕ, List, length, get_or, Result, Ok, Err, OnOk, OnErr, refl, ◌∙◌, ap, subst, arith}
use Rattle.disk.specs.Model.{State, MayLeave, FailedWrite, Elapses, after_write, at_rest, is_touched}
use Rattle.disk.specs.Laws.{untouched_push}

-- more ranges, more files
pub widen : (s : State) (at : ℕ) (bytes : List ℕ) (file : List ℕ) → MayLeave s file → MayLeave (after_write s at bytes) file
widen s at bytes file may = record {
  no_shorter = may.no_shorter;
  same_outside = λ k within outside. may.same_outside k within (untouched_push k s.written at (length bytes) outside).0;
}

-- what a crash may leave after a write that failed, it may leave after one that succeeded
after_failed : (s new : State) (at : ℕ) (bytes : List ℕ) (file : List ℕ) → FailedWrite at (length bytes) s new → MayLeave new file → MayLeave (after_write s at bytes) file
after_failed s new at bytes file failed may = record {
  no_shorter = omega (arith, may.no_shorter, ap (λ (l : List ℕ). length l) failed.synced);
  same_outside = λ k within outside.
      may.same_outside k (omega (arith, within, ap (λ (l : List ℕ). length l) failed.synced)) (ap (λ (l : List (ℕ × ℕ)). is_touched k l) failed.written ∙ outside)
      ∙ ap (λ (l : List ℕ). get_or l k 0) failed.synced;
}

-- after a write, whether it failed or not, a crash leaves what it may leave after one that succeeded
pub pending : {T E : Type 0} {before now : ℕ} {past since : ℕ → List ℕ → Type 0} (s new : State) (at : ℕ) (bytes : List ℕ) (result : Result T E) → OnOk result (new ≡ after_write s at bytes) → OnErr result ((now ≡ before) ⊎ FailedWrite at (length bytes) s new)
    → Elapses before now past since s new result → (file : List ℕ) → MayLeave new file → MayLeave (after_write s at bytes) file
pending s new at bytes (Ok x) written torn time file may = subst (λ (t : State). MayLeave t file) written may
pending s new at bytes (Err e) written (inr failed) time file may = after_failed s new at bytes file failed may
pending s new at bytes (Err e) written (inl same) time file may = elim time.counted [
  | inl one ↦ absurd (omega (arith, one, same))
  | inr none ↦ widen s at bytes file (subst (λ (t : State). MayLeave t file) none.1 may)
]

-- after a sync, whether it failed or not, a crash leaves no other file than before
pub narrow : {T E : Type 0} (s new : State) (result : Result T E) → OnOk result (new ≡ at_rest s.seen) → OnErr result (new ≡ s) → MayLeave s s.seen → (file : List ℕ) → MayLeave new file → MayLeave s file
narrow s new (Err e) synced failed seen file may = subst (λ (t : State). MayLeave t file) failed may
narrow s new (Ok x) synced failed seen file may =
    let at_seen : MayLeave (at_rest s.seen) file = subst (λ (t : State). MayLeave t file) synced may in
    record {
      no_shorter = omega (arith, at_seen.no_shorter, seen.no_shorter);
      same_outside = λ k within outside. at_seen.same_outside k (omega (arith, within, seen.no_shorter)) refl ∙ seen.same_outside k within outside;
    }
