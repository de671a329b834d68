-- The bytes that are kept of a connection, and the digits with which a text begins.
use Rattle.std.proofs.Common.{ℕ, zero, suc, ◌≡◌, ◌+◌, ◌-◌, ◌<◌, ◌≤◌, ◌∙◌, min, Bool, true, false, cond, not, refl, sym, ap, subst, arith, Option, Some, None, IfSome, List, [], ◌∷◌, ◌++◌, length, take, drop, get_or, set, append_assoc, append-nil, length-append, length-drop, take_all, nat_lt, Bor}
use Rattle.std.specs.Char.{is_ascii_digit}
use Rattle.std.specs.List.{position, prefix_len, position_or_len}
use Rattle.std.proofs.lemmas.Bool.Decides.{nat_tests}
use Rattle.std.proofs.lemmas.List.{length-take, length-take-le, take-append-drop, take-append-le, take_more_set}
use Rattle.std.proofs.lemmas.List.Folds.{length-prefix_len}
use Rattle.std.proofs.lemmas.List.Sums.{prefix_len-le-length}
use Rattle.numerals.specs.Numbers.{IsBelow}
use Rattle.epochs.specs.Lines.{NamesSlot, digits_in, is_other, verb_text}
use Rattle.epochs.specs.declared.turning.SlotLine.{SlotLine}
use Rattle.epochs.specs.declared.turning.Verb.{Verb}

-- what is cut off twice at one length is cut off once
pub cut_once : (n : ℕ) (xs ys : List ℕ) → take n (take n xs ++ ys) ≡ take n (xs ++ ys)
cut_once zero xs ys = refl
cut_once (suc n) [] ys = refl
cut_once (suc n) (x ∷ xs) ys = ap (λ (l : List ℕ). x ∷ l) (cut_once n xs ys)

next_byte : (xs : List ℕ) (i d : ℕ) → i < length xs → drop i xs ≡ get_or xs i d ∷ drop (suc i) xs
next_byte [] i d within = absurd (omega (arith, within))
next_byte (x ∷ xs) zero d within = refl
next_byte (x ∷ xs) (suc i) d within = next_byte xs i d (omega (arith, within))

-- the next byte is put behind the others, and the rest is left
pub one_more : (n : ℕ) (said now bytes : List ℕ) (i d : ℕ) → i < length bytes → now ≡ take n (said ++ get_or bytes i d ∷ [])
    → take n (now ++ drop (i + 1) bytes) ≡ take n (said ++ drop i bytes)
one_more n said now bytes i d within is =
    let byte = get_or bytes i d in
    let e : suc i ≡ i + 1 = omega arith in
    let next : drop i bytes ≡ byte ∷ drop (i + 1) bytes = subst (λ (k : ℕ). drop i bytes ≡ byte ∷ drop k bytes) e (next_byte bytes i d within) in
    let rest = drop (i + 1) bytes in
    ap (λ (l : List ℕ). take n (l ++ rest)) is
    ∙ cut_once n (said ++ byte ∷ []) rest
    ∙ ap (λ (l : List ℕ). take n l) (append_assoc said (byte ∷ []) rest)
    ∙ ap (λ (l : List ℕ). take n (said ++ l)) (sym next)

-- what is kept isn't cut off
pub all_kept : (n k : ℕ) (bytes : List ℕ) → k ≤ n → take n (take k bytes) ≡ take k bytes
all_kept n k bytes fits = take_all n (take k bytes) (let l = length-take k bytes in omega (arith, l, fits))

-- all were put
pub extended : (n k : ℕ) (now bytes all : List ℕ) (i : ℕ) → k ≤ n → length bytes ≤ i → take n (take k now ++ drop i bytes) ≡ all → take k now ≡ all
extended n k now bytes all i fits end is =
    sym (all_kept n k now fits)
    ∙ ap (λ (l : List ℕ). take n l) (sym (append-nil (take k now)))
    ∙ ap (λ (l : List ℕ). take n (take k now ++ l)) (sym (none_left bytes i end))
    ∙ is
  where
    none_left : (xs : List ℕ) (j : ℕ) → length xs ≤ j → drop j xs ≡ []
    none_left [] zero most = refl
    none_left [] (suc j) most = refl
    none_left (x ∷ xs) zero most = absurd (omega (arith, most))
    none_left (x ∷ xs) (suc j) most = none_left xs j (omega (arith, most))

-- a byte for which there is room, and one for which there is none
pub pushed : (n k : ℕ) (bytes : List ℕ) (byte : ℕ) → k < n → length bytes ≡ n → take (k + 1) (set bytes k byte) ≡ take n (take k bytes ++ byte ∷ [])
pushed n k bytes byte fits size =
    let l = length-take-le k bytes (omega (arith, fits, size)) in
    let m = length-append (take k bytes) (byte ∷ []) in
    take_more_set bytes k byte (omega (arith, fits, size)) ∙ sym (take_all n (take k bytes ++ byte ∷ []) (omega (arith, l, m, fits)))

pub full : (n k : ℕ) (bytes : List ℕ) (byte : ℕ) → n ≤ k → k ≤ n → length bytes ≡ n → take k bytes ≡ take n (take k bytes ++ byte ∷ [])
full n k bytes byte most fits size =
    let l = length-take-le k bytes (omega (arith, fits, size)) in
    sym (all_kept n k bytes fits) ∙ sym (take-append-le n (take k bytes) (byte ∷ []) (omega (arith, l, most)))

-- three texts that were put one after the other
pub put_three : (n : ℕ) (s0 s1 s2 s3 a b c : List ℕ) → s0 ≡ [] → s1 ≡ take n (s0 ++ a) → s2 ≡ take n (s1 ++ b) → s3 ≡ take n (s2 ++ c) → s3 ≡ take n (a ++ (b ++ c))
put_three n s0 s1 s2 s3 a b c none first second third =
    third
    ∙ ap (λ (s : List ℕ). take n (s ++ c)) (second ∙ ap (λ (s : List ℕ). take n (s ++ b)) (first ∙ ap (λ (s : List ℕ). take n (s ++ a)) none) ∙ cut_once n a b)
    ∙ cut_once n (a ++ b) c
    ∙ ap (λ (l : List ℕ). take n l) (append_assoc a b c)

-- two more
pub put_five : (n : ℕ) (s0 s1 s2 s3 s4 s5 a b c d e : List ℕ) → s0 ≡ [] → s1 ≡ take n (s0 ++ a) → s2 ≡ take n (s1 ++ b) → s3 ≡ take n (s2 ++ c)
    → s4 ≡ take n (s3 ++ d) → s5 ≡ take n (s4 ++ e) → s5 ≡ take n (a ++ (b ++ (c ++ (d ++ e))))
put_five n s0 s1 s2 s3 s4 s5 a b c d e none first second third fourth fifth =
    fifth
    ∙ ap (λ (s : List ℕ). take n (s ++ e)) (fourth ∙ ap (λ (s : List ℕ). take n (s ++ d)) (put_three n s0 s1 s2 s3 a b c none first second third) ∙ cut_once n (a ++ (b ++ c)) d)
    ∙ cut_once n ((a ++ (b ++ c)) ++ d) e
    ∙ ap (λ (l : List ℕ). take n l) (append_assoc (a ++ (b ++ c)) d e ∙ append_assoc a (b ++ c) (d ++ e) ∙ ap (λ (l : List ℕ). a ++ l) (append_assoc b c (d ++ e)))

-- and that are short
pub short_five : (a b c d e : List ℕ) → length a ≡ 7 → length b ≤ 40 → length c ≡ 1 → length d ≤ 40 → length e ≡ 1 → length (a ++ (b ++ (c ++ (d ++ e)))) ≤ 1024
short_five a b c d e la lb lc ld le =
    let h = length-append d e in
    let g = length-append c (d ++ e) in
    let f = length-append b (c ++ (d ++ e)) in
    let i = length-append a (b ++ (c ++ (d ++ e))) in
    omega (arith, h, g, f, i, la, lb, lc, ld, le)

-- the place of the first byte that is no digit is the number of digits before it
same_count : (xs : List ℕ) → position_or_len is_other xs ≡ prefix_len is_ascii_digit xs
same_count [] = refl
same_count (x ∷ xs) = by (is_ascii_digit x) (same_count xs) where
  by : (b : Bool) → position_or_len is_other xs ≡ prefix_len is_ascii_digit xs
      → cond (not (not b)) (1 + position_or_len is_other xs) 0 ≡ cond b (1 + prefix_len is_ascii_digit xs) 0
  by true rest = ap (λ (k : ℕ). 1 + k) rest
  by false rest = refl

digit_count : (text : List ℕ) → position_or_len is_other text ≡ length (digits_in text)
digit_count text = same_count text ∙ sym (length-prefix_len is_ascii_digit text)

pub digits_before : (text : List ℕ) (count : ℕ) → Some count ≡ position is_other text → min count (length text) ≡ length (digits_in text)
digits_before text count found =
    let is : count ≡ position_or_len is_other text = step (nat_lt (position_or_len is_other text) (length text)) found in
    let most = prefix_len-le-length is_ascii_digit text in
    let same = same_count text in
    let counted = digit_count text in
    omega (arith, is, most, same, counted)
  where
    step : (b : Bool) → Some count ≡ cond b (Some (position_or_len is_other text)) None → count ≡ position_or_len is_other text
    step true e = cc
    step false e = absurd (cc)

pub all_digits : (text : List ℕ) → ◌≡◌ {A = Option ℕ} None (position is_other text) → length text ≡ length (digits_in text)
all_digits text none =
    let past : nat_lt (position_or_len is_other text) (length text) ≡ false = step (nat_lt (position_or_len is_other text) (length text)) none in
    let most = prefix_len-le-length is_ascii_digit text in
    let same = same_count text in
    let counted = digit_count text in
    let least : length text ≤ position_or_len is_other text = grind (arith, nat_tests) in
    omega (arith, least, most, same, counted)
  where
    step : (b : Bool) → ◌≡◌ {A = Option ℕ} None (cond b (Some (position_or_len is_other text)) None) → b ≡ false
    step true e = absurd (cc)
    step false e = refl

-- so many bytes are the digits
pub digits_taken : (text : List ℕ) (count : ℕ) → count ≡ length (digits_in text) → take count text ≡ digits_in text
digits_taken text count is = ap (λ (k : ℕ). take k text) (is ∙ length-prefix_len is_ascii_digit text)

-- the rest behind them
pub rest_behind : (text : List ℕ) (count : ℕ) → take (length text - count) (drop count text) ≡ drop count text
rest_behind text count = take_all (length text - count) (drop count text) (let l = length-drop count text in omega (arith, l))

never : (x : ℕ) → ◌≡◌ {A = Option ℕ} None (Some x) → ⊥
never x e = cc

-- a line is read
pub names_slot : (line text : List ℕ) (verb : Verb) (count : ℕ) (slot : Option ℕ) (rest : Bor (List ℕ)) → line ≡ verb_text verb ++ text
    → count ≡ length (digits_in text) → 0 < count → count ≤ 20 → rest.now ≡ drop count text
    → IfSome slot (IsBelow 64 (take count text)) → ((n : ℕ) → IsBelow 64 (take count text) n → slot ≡ Some n)
    → NamesSlot line (record { verb = verb; slot = slot; rest = rest })
names_slot line text verb count slot rest parts counted some few behind is exact =
    let whole : take count text ++ rest.now ≡ text = ap (λ (l : List ℕ). take count text ++ l) behind ∙ take-append-drop count text in
    let taken = digits_taken text count counted in
    let size : length (take count text) ≡ count = ap length taken ∙ sym counted in
    record {
      digits = take count text;
      parts = parts ∙ ap (λ (l : List ℕ). verb_text verb ++ l) (sym whole);
      few = omega (arith, size, few);
      slot = is;
      some = omega (arith, size, some);
      all = ap digits_in whole ∙ sym taken;
      past = λ none n below. never n (sym none ∙ exact n below);
    }

-- a text that was put is this one
pub put_as : (n : ℕ) (old new text is : List ℕ) → new ≡ take n (old ++ text) → text ≡ is → new ≡ take n (old ++ is)
put_as n old new text is put same = put ∙ ap (λ (l : List ℕ). take n (old ++ l)) same

-- what is left behind a front, put anew
pub front_dropped : (n count k : ℕ) (bytes none kept left : List ℕ) (least : ℕ) (new : List ℕ) → k ≤ n → length bytes ≡ n → none ≡ [] → kept ≡ take k bytes
    → least ≡ min count k → left ≡ take (length kept - least) (drop least kept) → new ≡ take n (none ++ left) → new ≡ drop count (take k bytes)
front_dropped n count k bytes none kept left least new fits size empty is lesser rest put =
    let l = length-take-le k bytes (omega (arith, fits, size)) in
    let whole : left ≡ drop least (take k bytes) = rest ∙ rest_behind kept least ∙ ap (λ (xs : List ℕ). drop least xs) is in
    let d = length-drop least (take k bytes) in
    let same : drop least (take k bytes) ≡ drop count (take k bytes) = drop_least count k least (take k bytes) l lesser in
    put
    ∙ ap (λ (xs : List ℕ). take n (xs ++ left)) empty
    ∙ ap (λ (xs : List ℕ). take n xs) whole
    ∙ take_all n (drop least (take k bytes)) (omega (arith, d, l, fits))
    ∙ same
  where
    none_left : (xs : List ℕ) (j : ℕ) → length xs ≤ j → drop j xs ≡ []
    none_left [] zero most = refl
    none_left [] (suc j) most = refl
    none_left (x ∷ xs) zero most = absurd (omega (arith, most))
    none_left (x ∷ xs) (suc j) most = none_left xs j (omega (arith, most))

    drop_least : (count k least : ℕ) (xs : List ℕ) → length xs ≡ k → least ≡ min count k → drop least xs ≡ drop count xs
    drop_least count k least xs l lesser = by (nat_lt count k) refl
      where
        by : (b : Bool) → nat_lt count k ≡ b → drop least xs ≡ drop count xs
        by true e =
            let few : count < k = grind (arith, nat_tests) in
            let is : least ≡ count = omega (arith, lesser, few) in
            ap (λ (j : ℕ). drop j xs) is
        by false e =
            let many : k ≤ count = grind (arith, nat_tests) in
            let is : least ≡ k = omega (arith, lesser, many) in
            none_left xs least (omega (arith, is, l)) ∙ sym (none_left xs count (omega (arith, l, many)))
