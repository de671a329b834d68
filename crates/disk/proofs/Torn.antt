-- What may be left of a write.
use Rattle.std.proofs.Common.{◌≡◌, ◌⊎◌, ℕ, ◌+◌, ◌<◌, ◌≤◌, false, List, [], ◌∷◌, ◌++◌, length, get_or, sym, subst, ◌∙◌, arith, length-append}
use Rattle.std.proofs.lemmas.List.{get_or_append_left}
use Rattle.disk.specs.Model.{State, MayLeave, is_touched, overwritten, at_rest}
use Rattle.disk.specs.Laws.{untouched_push, length_put, put_elsewhere}

pub longer : (file behind : List ℕ) → MayLeave (at_rest file) (file ++ behind)
longer file behind = record {
  no_shorter = omega (arith, length-append file behind);
  same_outside = λ k within outside. get_or_append_left file behind 0 k within;
}

-- outside one range more a file is as it was: it may be left, and with any bytes in the range
module _ (s t : State) (at n : ℕ) (file : List ℕ) (synced : t.synced ≡ s.synced) (written : t.written ≡ s.written ++ (at, n) ∷ []) (may : MayLeave s file) where
  inside : (k : ℕ) → k < length t.synced → k < length s.synced
  inside k within = subst (λ (l : List ℕ). k < length l) synced within

  parts : (k : ℕ) → is_touched k t.written ≡ false → (is_touched k s.written ≡ false) × ((k < at) ⊎ (at + n ≤ k))
  parts k outside = untouched_push k s.written at n (subst (λ (l : List (ℕ × ℕ)). is_touched k l ≡ false) written outside)

  same : (k : ℕ) → k < length t.synced → is_touched k t.written ≡ false → get_or file k 0 ≡ get_or t.synced k 0
  same k within outside =
      subst (λ (l : List ℕ). get_or file k 0 ≡ get_or l k 0) (sym synced) (may.same_outside k (inside k within) (parts k outside).0)

  pub untorn : MayLeave t file
  untorn = record {
    no_shorter = subst (λ (l : List ℕ). length l ≤ length file) (sym synced) may.no_shorter;
    same_outside = same;
  }

  pub torn : (others : List ℕ) → length others ≡ n → MayLeave t (overwritten file at others)
  torn others len = record {
    no_shorter = let old = untorn.no_shorter in omega (arith, length_put file at others);
    same_outside = λ k within outside.
        let still = inside k within in
        let beside : (k < at) ⊎ (at + length others ≤ k) = subst (λ (m : ℕ). (k < at) ⊎ (at + m ≤ k)) (sym len) (parts k outside).1 in
        put_elsewhere file at others k (omega (arith, may.no_shorter)) beside ∙ same k within outside;
  }
