-- One call more.
use Rattle.std.proofs.Common.{◌≡◌, ◌⊎◌, inl, inr, ℕ, ◌<◌, ◌≤◌, List, [], ◌∷◌, ◌++◌, length, Result, IsErr, refl, sym, ◌∙◌, ap, subst, arith, length-append, take_all}
use Rattle.std.proofs.lemmas.Bool.{cases_lt}
use Rattle.std.proofs.lemmas.List.{take-append-le}
use Rattle.disk.specs.Model.{State, MayLeave, Elapses, at_rest}
use Rattle.disk.specs.Replay.{Call, FilePast, after_call, replay, listed, state_of, LeftSince}

-- the last call comes last
replay_push : (s : State) (calls : List Call) (call : Call) → replay s (calls ++ call ∷ []) ≡ after_call (replay s calls) call
replay_push s [] call = refl
replay_push s (c ∷ calls) call = replay_push (after_call s c) calls call

-- the state after a call, of one that is the state of a past
pub replayed : (past : FilePast) (call : Call) (old new : State) → old ≡ state_of past → new ≡ after_call old call → new ≡ state_of (listed past call)
replayed past call old new was is =
    is ∙ ap (λ (s : State). after_call s call) was ∙ sym (replay_push (at_rest past.start) past.calls call)

module _ (start : List ℕ) (old : List Call) where
  -- the state after these calls
  abbrev Now : List Call → State
  Now calls = replay (at_rest start) calls

  -- what a crash might have left before one call more, it might have left after it
  more : (call : Call) (t : ℕ) (file : List ℕ) → LeftSince start old t file → LeftSince start (old ++ call ∷ []) t file
  more call t file left = (
    left.0,
    left.1,
    omega (arith, left.2, length-append old (call ∷ [])),
    subst (λ (l : List Call). MayLeave (Now l) file) (sym (take-append-le left.0 old (call ∷ []) left.2)) left.3,
  )

  -- and what after it, before it or by the new state
  less : (call : Call) (t : ℕ) (file : List ℕ) → LeftSince start (old ++ call ∷ []) t file → LeftSince start old t file ⊎ MayLeave (Now (old ++ call ∷ [])) file
  less call t file left = elim (within left.0 (length old)) [
    | inl le ↦ inl (left.0, left.1, le, subst (λ (l : List Call). MayLeave (Now l) file) (take-append-le left.0 old (call ∷ []) le) left.3)
    | inr lt ↦ inr (subst (λ (l : List Call). MayLeave (Now l) file) (take_all left.0 (old ++ call ∷ []) (omega (arith, length-append old (call ∷ []), lt))) left.3)
  ]
    where
      within : (k n : ℕ) → (k ≤ n) ⊎ (n < k)
      within k n = elim (cases_lt n k) [ inl lt ↦ inr lt | inr le ↦ inl le ]

-- time goes on from the one past to the other
abbrev GoesOn : {T E : Type 0} → FilePast → FilePast → Result T E → Type 0
GoesOn old new result = Elapses (length old.calls) (length new.calls) (LeftSince old.start old.calls) (LeftSince new.start new.calls) (state_of old) (state_of new) result

module _ {T E : Type 0} (old new : FilePast) (result : Result T E) where
  -- a call that is listed is one moment
  pub elapses_listed : (call : Call) → new ≡ listed old call → GoesOn old new result
  elapses_listed call is = subst (λ (past : FilePast). GoesOn old past result) (sym is) (record {
    counted = inl (length-append old.calls (call ∷ []));
    nothing_else = λ t file le left. less old.start old.calls call t file left;
    keeps = λ t file le left. more old.start old.calls call t file left;
  })

  -- one that is not is none
  pub elapses_refused : new ≡ old → IsErr result → GoesOn old new result
  elapses_refused is err = subst (λ (past : FilePast). GoesOn old past result) (sym is) (record {
    counted = inr (refl, refl, err);
    nothing_else = λ t file le left. inl left;
    keeps = λ t file le left. left;
  })

-- the state that comes after one call
pub state_listed : (old new : FilePast) (call : Call) → new ≡ listed old call → state_of new ≡ after_call (state_of old) call
state_listed old new call is = ap state_of is ∙ replay_push (at_rest old.start) old.calls call
