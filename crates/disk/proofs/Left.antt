-- Each file that a crash of a disk in memory leaves is one of those that it may leave.
use Rattle.std.proofs.Common.{◌≡◌, ℕ, zero, suc, ◌+◌, ◌<◌, ◌≤◌, false, List, [], ◌∷◌, ◌++◌, length, take, drop, get_or, refl, sym, ◌∙◌, ap, subst, arith}
use Rattle.std.proofs.lemmas.Bool.{or_from, lt-leb, cond-false}
use Rattle.disk.specs.Model.{State, MayLeave, is_touched}
use Rattle.disk.specs.Crash.{filled_from, left}
use Rattle.disk.specs.declared.crash.Pick.{Pick}
use Rattle.disk.specs.declared.crash.Pick.TheVariants.{Kept, Lost, Fill}

-- a fill changes no length
pub length-filled : (synced : ℕ) (written : List (ℕ × ℕ)) (byte k : ℕ) (bytes : List ℕ) → length (filled_from synced written byte k bytes) ≡ length bytes
length-filled synced written byte k [] = refl
length-filled synced written byte k (b ∷ bytes) = ap suc (length-filled synced written byte (k + 1) bytes)

-- a place that a crash keeps
filled_kept : (synced : ℕ) (written : List (ℕ × ℕ)) (byte k i : ℕ) (bytes : List ℕ) → k + i < synced → is_touched (k + i) written ≡ false → get_or (filled_from synced written byte k bytes) i 0 ≡ get_or bytes i 0
filled_kept synced written byte k i [] within outside = refl
filled_kept synced written byte k zero (b ∷ bytes) within outside =
    let at : k + 0 ≡ k = omega arith in
    let out : is_touched k written ≡ false = subst (λ (n : ℕ). is_touched n written ≡ false) at outside in
    cond-false _ byte b (or_from _ _ (lt-leb synced k (omega (arith, within))) out)
filled_kept synced written byte k (suc i) (b ∷ bytes) within outside =
    let at : k + suc i ≡ k + 1 + i = omega arith in
    filled_kept synced written byte (k + 1) i bytes (omega (arith, within)) (subst (λ (n : ℕ). is_touched n written ≡ false) at outside)

-- a front in which no place is filled
pub unfilled_front : (synced : ℕ) (written : List (ℕ × ℕ)) (byte k n : ℕ) (bytes : List ℕ) → k + n ≤ synced
    → ((j : ℕ) → j < k + n → is_touched j written ≡ false)
    → take n bytes ++ filled_from synced written byte (k + n) (drop n bytes) ≡ filled_from synced written byte k bytes
unfilled_front synced written byte k zero bytes within outside =
    let at : k + 0 ≡ k = omega arith in
    ap (λ (z : ℕ). filled_from synced written byte z bytes) at
unfilled_front synced written byte k (suc n) [] within outside = refl
unfilled_front synced written byte k (suc n) (b ∷ bytes) within outside =
    let at : k + suc n ≡ k + 1 + n = omega arith in
    let here = cond-false _ byte b (or_from _ _ (lt-leb synced k (omega (arith, within))) (outside k (omega arith))) in
    ap (λ (z : ℕ). b ∷ (take n bytes ++ filled_from synced written byte z (drop n bytes))) at
    ∙ ap (λ (l : List ℕ). b ∷ l) (unfilled_front synced written byte (k + 1) n bytes (omega (arith, within)) (λ j l. outside j (omega (arith, l))))
    ∙ ap (λ (z : ℕ). z ∷ filled_from synced written byte (k + 1) bytes) (sym here)

pub left_may_leave : (s : State) (pick : Pick) → MayLeave s s.seen → MayLeave s (left s pick)
left_may_leave s Kept may = may
left_may_leave s Lost may = record { no_shorter = omega arith; same_outside = λ k within outside. refl }
left_may_leave s (Fill byte) may = record {
  no_shorter = omega (arith, may.no_shorter, length-filled (length s.synced) s.written byte 0 s.seen);
  same_outside = λ k within outside.
      let at : 0 + k ≡ k = omega arith in
      filled_kept (length s.synced) s.written byte 0 k s.seen (omega (arith, within)) (subst (λ (n : ℕ). is_touched n s.written ≡ false) (sym at) outside) ∙ may.same_outside k within outside;
}
