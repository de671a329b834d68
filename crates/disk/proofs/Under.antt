-- What lay under a write, laid back.
use Rattle.std.proofs.Common.{◌≡◌, ◌⊎◌, inl, inr, ℕ, ◌+◌, ◌-◌, ◌<◌, ◌≤◌, min, List, [], ◌∷◌, ◌++◌, length, get_or, take, drop, set, refl, sym, ◌∙◌, ap, arith, rules, length-append, length-drop, append_assoc, length-set, length-take-le}
use Rattle.std.proofs.lemmas.Bool.{cases_lt}
use Rattle.std.proofs.lemmas.List.{same_lists, places, set_at, take_more, take-append-le, drop-append-le}
use Rattle.disk.specs.Model.{overwritten}
use Rattle.disk.specs.System.{placed}
use Rattle.disk.specs.Under.{laid_back}
use Rattle.disk.proofs.Placing.{placed-append}

-- the last that was kept is laid back first
pub laid_back_more : (under more : List (ℕ × ℕ)) (file : List ℕ) → laid_back (under ++ more) file ≡ laid_back under (laid_back more file)
laid_back_more [] more file = refl
laid_back_more (one ∷ under) more file = ap (λ (l : List ℕ). set l one.0 one.1) (laid_back_more under more file)

-- a file keeps its length
pub length-laid_back : (under : List (ℕ × ℕ)) (file : List ℕ) → length (laid_back under file) ≡ length file
length-laid_back [] file = refl
length-laid_back (one ∷ under) file = length-set (laid_back under file) one.0 one.1 ∙ length-laid_back under file

-- what lay there, laid back over as many other bytes
pub laid_over : (front old new behind : List ℕ) (at : ℕ) → length front ≡ at → length new ≡ length old → laid_back (placed at old) (front ++ (new ++ behind)) ≡ front ++ (old ++ behind)
laid_over front [] [] behind at is same = refl
laid_over front [] (y ∷ new) behind at is same = absurd (omega (arith, same))
laid_over front (x ∷ old) [] behind at is same = absurd (omega (arith, same))
laid_over front (x ∷ old) (y ∷ new) behind at is same =
    let rest = laid_over (front ++ y ∷ []) old new behind (at + 1) (length-append front (y ∷ []) ∙ omega (arith, is)) (omega (arith, same)) in
    ap (λ (l : List ℕ). set l at x)
    (ap (λ (l : List ℕ). laid_back (placed (at + 1) old) l) (sym (append_assoc front (y ∷ []) (new ++ behind)))
    ∙ rest ∙ append_assoc front (y ∷ []) (old ++ behind))
    ∙ set_at front y (old ++ behind) x at is

-- In a file a write from a place on covers c of the bytes that were there at the last sync, which are the first n.
module _ (file bytes : List ℕ) (n at c : ℕ) (in_file : n ≤ length file) where
  -- none, where it begins behind them
  pub behind : n ≤ at → at ≤ length file → take n (overwritten file at bytes) ≡ take n file
  behind past fits = same_lists _ _ (search (rules, places)) (λ k d h. grind (arith, places))

  module _ (few : c ≤ length bytes) (within : at + c ≤ n) where
    -- before, under and behind the write
    pub before_is : take n file ≡ take at file ++ (take c (drop at file) ++ drop (at + c) (take n file))
    before_is = same_lists _ _ (search (rules, places)) (λ k d h. grind (arith, places))

    pub after_is : (c ≡ length bytes) ⊎ (at + c ≡ n) → take n (overwritten file at bytes) ≡ take at file ++ (take c bytes ++ drop (at + c) (take n file))
    after_is (inl all) = same_lists _ _ (search (rules, places)) (λ k d h. grind (arith, places))
    after_is (inr rest) = same_lists _ _ (search (rules, places)) (λ k d h. grind (arith, places))

-- one byte more is kept
pub kept_more : (at i d : ℕ) (old now new : List (ℕ × ℕ)) (bytes : List ℕ) → i < length bytes → now ≡ old ++ placed at (take i bytes) → new ≡ now ++ (at + i, get_or bytes i d) ∷ [] → new ≡ old ++ placed at (take (i + 1) bytes)
kept_more at i d old now new bytes within was is =
    let b = get_or bytes i d in
    is ∙ ap (λ (l : List (ℕ × ℕ)). l ++ (at + i, b) ∷ []) was
    ∙ append_assoc old (placed at (take i bytes)) ((at + i, b) ∷ [])
    ∙ ap (λ (k : ℕ). old ++ (placed at (take i bytes) ++ (at + k, b) ∷ [])) (sym (length-take-le i bytes (omega (arith, within))))
    ∙ ap (λ (l : List (ℕ × ℕ)). old ++ l) (sym (placed-append at (take i bytes) (b ∷ [])))
    ∙ ap (λ (l : List ℕ). old ++ placed at l) (sym (take_more bytes i d within))

-- the last that was kept is laid back
pub laid_back_last : (under old : List (ℕ × ℕ)) (place byte : ℕ) (file : List ℕ) → old ≡ under ++ (place, byte) ∷ [] → laid_back under (set file place byte) ≡ laid_back old file
laid_back_last under old place byte file is =
    sym (ap (λ (l : List (ℕ × ℕ)). laid_back l file) is ∙ laid_back_more under ((place, byte) ∷ []) file)

-- a write of what is inside the file over the file with what is past it
pub grown : (file bytes : List ℕ) (at inside : ℕ) → at ≤ length file → inside ≡ min (length bytes) (length file - at)
    → overwritten (file ++ drop inside bytes) at (take inside bytes) ≡ overwritten file at bytes
grown file bytes at inside fits is = elim (cases_lt (length bytes) (length file - at)) [
  | inl less ↦ same_lists _ _ (search (rules, places)) (λ k d h. grind (arith, places))
  | inr more ↦ same_lists _ _ (search (rules, places)) (λ k d h. grind (arith, places))
]

-- what was kept of a write makes the file of the last sync of the file after it
pub still_under : (file bytes saved : List ℕ) (n at c : ℕ) (under : List (ℕ × ℕ)) → n ≤ length file → at ≤ length file → c ≡ min (length bytes) (n - at) → saved ≡ take c (drop at file)
    → laid_back (under ++ placed at saved) (take n (overwritten file at bytes)) ≡ laid_back under (take n file)
still_under file bytes saved n at c under in_file fits is kept =
    laid_back_more under (placed at saved) (take n (overwritten file at bytes)) ∙ ap (λ (l : List ℕ). laid_back under l) (elim (cases_lt at n) [
      | inl inside ↦ inside_is inside
      | inr past ↦ past_is past
    ])
  where
    inside_is : at < n → laid_back (placed at saved) (take n (overwritten file at bytes)) ≡ take n file
    inside_is inside =
        let few : c ≤ length bytes = omega (arith, is) in
        let within : at + c ≤ n = omega (arith, is, inside) in
        let ends : (c ≡ length bytes) ⊎ (at + c ≡ n) = elim (cases_lt (length bytes) (n - at)) [
          | inl less ↦ inl (omega (arith, is, less))
          | inr more ↦ inr (omega (arith, is, more, inside))
        ] in
        (λ i. laid_back (placed at (kept i)) (after_is file bytes n at c in_file few within ends i))
        ∙ laid_over (take at file) (take c (drop at file)) (take c bytes) (drop (at + c) (take n file)) at (length-take-le at file fits)
        (length-take-le c bytes few ∙ sym (length-take-le c (drop at file) (omega (arith, length-drop at file, within, in_file))))
        ∙ sym (before_is file bytes n at c in_file few within)

    past_is : n ≤ at → laid_back (placed at saved) (take n (overwritten file at bytes)) ≡ take n file
    past_is past =
        let none : saved ≡ [] = kept ∙ ap (λ (k : ℕ). take k (drop at file)) (let zero_is : c ≡ 0 = omega (arith, is, past) in zero_is) in
        ap (λ (l : List ℕ). laid_back (placed at l) (take n (overwritten file at bytes))) none ∙ behind file bytes n at c in_file past fits

-- what is kept is read of the file before the write
pub kept_is : (file tail : List ℕ) (n at c : ℕ) (bytes : List ℕ) → n ≤ length file → at ≤ length file → c ≡ min (length bytes) (n - at) → take (at + c - at) (drop at (file ++ tail)) ≡ take c (drop at file)
kept_is file tail n at c bytes in_file fits is =
    ap (λ (k : ℕ). take k (drop at (file ++ tail))) (omega arith)
    ∙ ap (λ (l : List ℕ). take c l) (drop-append-le at file tail fits)
    ∙ take-append-le c (drop at file) tail (omega (arith, length-drop at file, is, in_file))
