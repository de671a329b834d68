-- What holds of every list of calls.
use Rattle.std.proofs.Common.{◌≡◌, ◌⊎◌, inl, inr, ◌&&◌, ℕ, ◌+◌, ◌<◌, ◌≤◌, false, nat_le, nat_lt, List, [], ◌∷◌, ◌++◌, length, get_or, take, drop, refl, sym, ◌∙◌, subst, arith, length-append, length-drop, take_all, length-take}
use Rattle.std.proofs.lemmas.Bool.{or_parts, cases_lt}
use Rattle.std.proofs.lemmas.Bool.Decides.{nat_tests}
use Rattle.std.proofs.lemmas.List.{places}
use Rattle.disk.specs.Model.{State, MayLeave, at_rest, is_touched, overwritten}
use Rattle.disk.specs.Replay.{Call, after_call, replay, LeftSince}
use Rattle.disk.specs.Replay.Call.{Still, Wrote, Failed, Torn, Synced}

-- a place outside these ranges and one more is outside each
pub untouched_push : (k : ℕ) (ranges : List (ℕ × ℕ)) (at n : ℕ) → is_touched k (ranges ++ (at, n) ∷ []) ≡ false → (is_touched k ranges ≡ false) × ((k < at) ⊎ (at + n ≤ k))
untouched_push k [] at n none = (
  refl,
  elim (cases_lt k at) [
    | inl before ↦ inl before
    | inr from ↦ elim (cases_lt k (at + n)) [
      | inl within ↦ absurd (grind (arith, nat_tests))
      | inr past ↦ inr past
    ]
  ],
)
untouched_push k (range ∷ ranges) at n none =
    let parts = or_parts (nat_le range.0 k && nat_lt k (range.0 + range.1)) (is_touched k (ranges ++ (at, n) ∷ [])) none in
    let rest = untouched_push k ranges at n parts.1 in
    (grind (arith, nat_tests, parts.0, rest.0), rest.1)

-- a write makes no file shorter
pub length_put : (file : List ℕ) (at : ℕ) (bytes : List ℕ) → length file ≤ length (overwritten file at bytes)
length_put file at bytes =
    omega (arith, length-append (take at file ++ bytes) (drop (at + length bytes) file), length-append (take at file) bytes, length-take at file, length-drop (at + length bytes) file)

-- a write changes no place outside its range
pub put_elsewhere : (file : List ℕ) (at : ℕ) (bytes : List ℕ) (k : ℕ) → k < length file → (k < at) ⊎ (at + length bytes ≤ k) → get_or (overwritten file at bytes) k 0 ≡ get_or file k 0
put_elsewhere file at bytes k within (inl before) = grind (arith, places)
put_elsewhere file at bytes k within (inr past) = grind (arith, places)

-- what is outside a range is outside a part of it
pub outside_part : (k at n : ℕ) (bytes : List ℕ) → (k < at) ⊎ (at + n ≤ k) → (k < at) ⊎ (at + length (take n bytes) ≤ k)
outside_part k at n bytes (inl before) = inl before
outside_part k at n bytes (inr past) = inr (omega (arith, past, length-take n bytes))

-- what reads give after a call is one of the files that a crash may leave
after_call_may_leave : (s : State) (call : Call) → MayLeave s s.seen → MayLeave (after_call s call) (after_call s call).seen
after_call_may_leave s Still may = may
after_call_may_leave s (Wrote at bytes) may = record {
  no_shorter = omega (arith, may.no_shorter, length_put s.seen at bytes);
  same_outside = λ k within outside.
      let parts = untouched_push k s.written at (length bytes) outside in
      put_elsewhere s.seen at bytes k (omega (arith, may.no_shorter)) parts.1 ∙ may.same_outside k within parts.0;
}
after_call_may_leave s (Failed at n) may = record {
  no_shorter = may.no_shorter;
  same_outside = λ k within outside. may.same_outside k within (untouched_push k s.written at n outside).0;
}
after_call_may_leave s (Torn at n bytes) may = record {
  no_shorter = omega (arith, may.no_shorter, length_put s.seen at (take n bytes));
  same_outside = λ k within outside.
      let parts = untouched_push k s.written at n outside in
      put_elsewhere s.seen at (take n bytes) k (omega (arith, may.no_shorter)) (outside_part k at n bytes parts.1) ∙ may.same_outside k within parts.0;
}
after_call_may_leave s Synced may = record { no_shorter = omega arith; same_outside = λ k within outside. refl }

-- and so after any calls
replay_may_leave : (s : State) (calls : List Call) → MayLeave s s.seen → MayLeave (replay s calls) (replay s calls).seen
replay_may_leave s [] may = may
replay_may_leave s (call ∷ calls) may = replay_may_leave (after_call s call) calls (after_call_may_leave s call may)

-- and so from a file that was all on the disk
pub may_leave_seen : (start : List ℕ) (calls : List Call) → MayLeave (replay (at_rest start) calls) (replay (at_rest start) calls).seen
may_leave_seen start calls =
    replay_may_leave (at_rest start) calls (record { no_shorter = omega arith; same_outside = λ k within outside. refl })

-- this moment is one of those since an earlier one
pub counts_now : (start : List ℕ) (calls : List Call) (t : ℕ) (file : List ℕ) → t ≤ length calls → MayLeave (replay (at_rest start) calls) file → LeftSince start calls t file
counts_now start calls t file le may = (
  length calls,
  le,
  omega arith,
  subst (λ (l : List Call). MayLeave (replay (at_rest start) l) file) (sym (take_all (length calls) calls (omega arith))) may,
)

-- since this moment there is no other
pub only_now : (start : List ℕ) (calls : List Call) (file : List ℕ) → LeftSince start calls (length calls) file → MayLeave (replay (at_rest start) calls) file
only_now start calls file left =
    subst (λ (l : List Call). MayLeave (replay (at_rest start) l) file) (take_all left.0 calls (omega (arith, left.1))) left.3
