-- The first 18 of bytes to which more come.
use Rattle.std.proofs.Common.{ℕ, zero, suc, ◌≡◌, ◌+◌, ◌<◌, ◌≤◌, min, append-nil, refl, List, [], ◌∷◌, ◌++◌, length, take, sym, ap, ◌∙◌, arith, length-append}
use Rattle.std.proofs.lemmas.List.{length-take, take-append-le, take_all}
use Rattle.links.specs.Told.{Told, has_ended, has_read}

-- how many are kept
pub kept_count : (bytes now : List ℕ) (count : ℕ) → length bytes ≡ 18 → count ≤ 18 → take count bytes ≡ now → length now ≡ count
kept_count bytes now count all within is =
    let taken : length (take count bytes) ≡ min count (length bytes) = length-take count bytes in
    let same : length (take count bytes) ≡ length now = ap length is in
    omega (arith, taken, same, all, within)

-- less than 18 are all
pub more_come : (old before : List ℕ) (byte : ℕ) → old ≡ take 18 before → length old < 18 → old ++ byte ∷ [] ≡ take 18 (before ++ byte ∷ [])
more_come old before byte is few =
    let count : length old ≡ min 18 (length before) = ap length is ∙ length-take 18 before in
    let whole : old ≡ before = is ∙ take_all 18 before (omega (arith, count, few)) in
    let longer : length (before ++ byte ∷ []) ≡ length before + 1 = length-append before (byte ∷ []) in
    ap (λ (t : List ℕ). t ++ byte ∷ []) whole ∙ sym (take_all 18 (before ++ byte ∷ []) (omega (arith, count, few, longer)))

-- and to 18 no more comes
pub full_stays : (old before more : List ℕ) → old ≡ take 18 before → 18 ≤ length old → old ≡ take 18 (before ++ more)
full_stays old before more is full =
    let count : length old ≡ min 18 (length before) = ap length is ∙ length-take 18 before in
    is ∙ sym (take-append-le 18 before more (omega (arith, count, full)))

-- what a read gave stands behind what was taken before
pub taken_more : (old new : Told) (buf : List ℕ) (n : ℕ) → (0 < n → new ≡ has_read old (take n buf)) → (n ≡ 0 → new ≡ has_ended old)
    → old.taken ++ take n buf ≡ new.taken
taken_more old new buf zero got ended = append-nil old.taken ∙ sym (ap (λ (told : Told). told.taken) (ended refl))
taken_more old new buf (suc n) got ended = sym (ap (λ (told : Told). told.taken) (got (omega arith)))
