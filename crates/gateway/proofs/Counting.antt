-- The times that were counted by bounds.
use Rattle.std.proofs.Common.{ℕ, ◌≡◌, ◌+◌, ◌<◌, ◌^◌, ◌∙◌, Bool, true, false, cond, refl, sym, ap, arith, IfOk, Result, Ok, Err, List, [], ◌∷◌, ◌++◌, nat_le, length, length-append, map, subst, if◌then◌else◌}
use Rattle.std.proofs.lemmas.List.Sums.{count_by-le-length, sum_by_push}
use Rattle.std.specs.List.{flat_map}
use Rattle.gateway.specs.Metrics.{bucket_row, bucket_text}
use Rattle.gateway.specs.Times.{bucket_after, bucket_of, more, within}
use Rattle.gateway.specs.declared.times.Bucket.{Bucket}

-- the rows of buckets are those of their bounds
rows_of : (times bounds : List ℕ) → flat_map bucket_text (map (bucket_of times) bounds) ≡ flat_map (bucket_row times) bounds
rows_of times [] = refl
rows_of times (most ∷ bounds) = ap (λ (rest : List ℕ). bucket_row times most ++ rest) (rows_of times bounds)

pub all_rows : {A E : Type 0} (bytes : A → List ℕ) (r : Result A E) (buckets : List Bucket) (times bounds : List ℕ) → buckets ≡ map (bucket_of times) bounds
    → IfOk r (λ text. bytes text ≡ flat_map bucket_text buckets) → IfOk r (λ text. bytes text ≡ flat_map (bucket_row times) bounds)
all_rows bytes (Ok text) buckets times bounds is h = h ∙ (ap (λ (b : List Bucket). flat_map bucket_text b) is ∙ rows_of times bounds)
all_rows bytes (Err e) buckets times bounds is h = tt

-- one time more
within_more : (times : List ℕ) (ms most : ℕ) → within (times ++ ms ∷ []) most ≡ within times most + cond (nat_le ms most) 1 0
within_more times ms most = sum_by_push (λ (time : ℕ). cond (nat_le time most) 1 0) times ms

pub more_is : (n : ℕ) → n < 2 ^ 63 → more n ≡ n + 1
more_is n few = omega (arith, few)

abbrev bucket : ℕ → ℕ → Bucket
bucket most count = record { most = most; count = count }

bucket_more : (times : List ℕ) (ms most : ℕ) → length times < 2 ^ 63 → bucket_after ms (bucket_of times most) ≡ bucket_of (times ++ ms ∷ []) most
bucket_more times ms most few = step (nat_le ms most) refl
  where
    step : (b : Bool) → nat_le ms most ≡ b
        → (if b then bucket most (more (within times most)) else bucket_of times most) ≡ bucket_of (times ++ ms ∷ []) most
    step true e =
        let all = count_by-le-length (λ (time : ℕ). nat_le time most) times in
        let more_within : within (times ++ ms ∷ []) most ≡ within times most + 1 =
        subst (λ (b : Bool). within (times ++ ms ∷ []) most ≡ within times most + cond b 1 0) e (within_more times ms most) in
        ap (λ (count : ℕ). bucket most count) (more_is (within times most) (omega (arith, all, few)) ∙ sym more_within)
    step false e =
        let same : within (times ++ ms ∷ []) most ≡ within times most + 0 =
        subst (λ (b : Bool). within (times ++ ms ∷ []) most ≡ within times most + cond b 1 0) e (within_more times ms most) in
        ap (λ (count : ℕ). bucket most count) (omega (arith, same))

pub buckets_more : (times bounds : List ℕ) (ms : ℕ) → length times < 2 ^ 63
    → map (bucket_after ms) (map (bucket_of times) bounds) ≡ map (bucket_of (times ++ ms ∷ [])) bounds
buckets_more times [] ms few = refl
buckets_more times (most ∷ bounds) ms few =
    ap (λ (b : Bucket). b ∷ map (bucket_after ms) (map (bucket_of times) bounds)) (bucket_more times ms most few)
    ∙ ap (λ (bs : List Bucket). bucket_of (times ++ ms ∷ []) most ∷ bs) (buckets_more times bounds ms few)

pub count_more : (times : List ℕ) (ms : ℕ) → length (times ++ ms ∷ []) ≡ length times + 1
count_more times ms = simp length-append (omega arith)
