-- A call that was listed, from the fuse to its answer.
use Rattle.std.proofs.Common.{◌≡◌, ◌↔◌, ◌⊎◌, inr, ℕ, List, length, Bool, true, false, get_or, Result, Ok, Err, IsOk, OnOk, OnErr, IsTrue, refl, ap}
use Rattle.disk.specs.Model.{State, FailedWrite, after_write, at_rest}
use Rattle.disk.specs.Replay.{after_call, after_failed_write, write_if, sync_if}

-- the answer is good where the call passes
abbrev Passes : {T E : Type 0} → Bool → Result T E → Type 0
Passes passes answer = IsOk answer ↔ IsTrue passes

failed_write : (old new : State) (at n : ℕ) → new ≡ after_failed_write old at n → FailedWrite at n old new
failed_write old new at n is = record {
  synced = ap (λ (s : State). s.synced) is;
  written = ap (λ (s : State). s.written) is;
  elsewhere = λ k within outside. ap (λ (s : State). get_or s.seen k 0) is;
}

module _ {T E : Type 0} (old new : State) where
  module _ (at : ℕ) (bytes : List ℕ) where
    -- a write that passed
    pub written : (passes : Bool) (answer : Result T E) → new ≡ after_call old (write_if passes at bytes) → Passes passes answer → OnOk answer (new ≡ after_write old at bytes)
    written passes (Err e) is iff = tt
    written false (Ok x) is iff = absurd (cc (iff.0 refl))
    written true (Ok x) is iff = is

    -- a write that failed
    pub torn : (P : Type 0) (passes : Bool) (answer : Result T E) → new ≡ after_call old (write_if passes at bytes) → Passes passes answer → OnErr answer (P ⊎ FailedWrite at (length bytes) old new)
    torn P passes (Ok x) is iff = tt
    torn P true (Err e) is iff = absurd (cc (iff.1 refl))
    torn P false (Err e) is iff = inr (failed_write old new at (length bytes) is)

    -- it leaves what reads give
    pub stopped : (passes : Bool) (answer : Result T E) → new ≡ after_call old (write_if passes at bytes) → Passes passes answer → OnErr answer (new.seen ≡ old.seen)
    stopped passes (Ok x) is iff = tt
    stopped true (Err e) is iff = absurd (cc (iff.1 refl))
    stopped false (Err e) is iff = ap (λ (s : State). s.seen) is

  -- a sync that passed
  pub synced : (passes : Bool) (answer : Result T E) → new ≡ after_call old (sync_if passes) → Passes passes answer → OnOk answer (new ≡ at_rest old.seen)
  synced passes (Err e) is iff = tt
  synced false (Ok x) is iff = absurd (cc (iff.0 refl))
  synced true (Ok x) is iff = is

  -- a sync that failed leaves all
  pub not_synced : (passes : Bool) (answer : Result T E) → new ≡ after_call old (sync_if passes) → Passes passes answer → OnErr answer (new ≡ old)
  not_synced passes (Ok x) is iff = tt
  not_synced true (Err e) is iff = absurd (cc (iff.1 refl))
  not_synced false (Err e) is iff = is
