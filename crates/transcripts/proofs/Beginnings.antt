-- What begins a transcript, and what doesn't.
use Rattle.std.proofs.Common.{ℕ, zero, suc, ◌≡◌, ◌+◌, ◌-◌, ◌<◌, ◌≤◌, ◌^◌, ◌⊎◌, inl, inr, Bool, true, false, refl, sym, ap, subst, ◌∙◌, arith, List, [], ◌∷◌, ◌++◌, length, map, replicate, get_or, drop, codes, length-append}
use Rattle.std.specs.Fmt.{decimal}
use Rattle.std.specs.List.{All}
use Rattle.std.proofs.lemmas.Fmt.{decimal_injective, decimal_is_IsNumeral}
use Rattle.std.proofs.lemmas.List.{length-map}
use Rattle.std.proofs.lemmas.List.Elements.{All-append}
use Rattle.terms_prelude.specs.Terms.{Initial, Zero, Statement, Size, IsSize, IsWellFormed, new_place, new_statement}
use Rattle.numerals.proofs.Cuts.{digits_spaceless, one_cut}
use Rattle.numerals.specs.Lines.{lines_of}
use Rattle.numerals.specs.Spaces.{NoSpace}
use Rattle.transcripts.specs.Lines.{bit_words, head_line, pair_line}
use Rattle.transcripts.specs.Reading.{FitsPair, FitsSize, Shown, lines_shown, Begins, IsNone, IsBadAt, IsBadNext}
use Rattle.transcripts.specs.Rests.{IsNoPair, IsBadRest, EndsAt}

-- the digits of a number have no space
pub spaceless_digits : (n : ℕ) → n < 2 ^ 64 → NoSpace (decimal n)
spaceless_digits n l = digits_spaceless (decimal n) (decimal_is_IsNumeral n l).0.1

-- the words behind a question name one count
same_words : (b d : Bool) (m n : ℕ) → m < 2 ^ 64 → n < 2 ^ 64 → bit_words b ++ decimal m ≡ bit_words d ++ decimal n → m ≡ n
same_words true true m n l k e = let f : decimal m ≡ decimal n = cc in decimal_injective m n l k f
same_words false false m n l k e = let f : decimal m ≡ decimal n = cc in decimal_injective m n l k f
same_words true false m n l k e = let f : 49 ≡ 48 = ap (λ (t : List ℕ). get_or t 4 0) e in absurd (omega (arith, f))
same_words false true m n l k e = let f : 48 ≡ 49 = ap (λ (t : List ℕ). get_or t 4 0) e in absurd (omega (arith, f))

-- two first lines that are one name one count
pub same_count : (q r : ℕ) (b d : Bool) (m n : ℕ) → q < 2 ^ 64 → r < 2 ^ 64 → m < 2 ^ 64 → n < 2 ^ 64 → head_line q b m ≡ head_line r d n → m ≡ n
same_count q r b d m n q_small r_small m_small n_small e =
    let tails : decimal q ++ 32 ∷ (bit_words b ++ decimal m) ≡ decimal r ++ 32 ∷ (bit_words d ++ decimal n) = ap (λ (t : List ℕ). drop 11 t) e in
    same_words b d m n m_small n_small
    (one_cut (decimal q) (decimal r) (bit_words b ++ decimal m) (bit_words d ++ decimal n) (spaceless_digits q q_small) (spaceless_digits r r_small) tails).1

-- the parts of two lists that are one
heads : {A : Type 0} (x y : A) (xs ys : List A) → x ∷ xs ≡ y ∷ ys → (x ≡ y) × (xs ≡ ys)
heads x y xs ys e = (ap (λ l. get_or l 0 x) e, ap (λ l. drop 1 l) e)

module _ (size : Size) (lawful : IsSize size) where
  questions_few : (q : ℕ) → q < size.questions → q < 2 ^ 64
  questions_few q l = let few = lawful.few in let big : 256 < 2 ^ 64 = omega arith in omega (arith, l, few, big)

  -- there always is a statement of a member
  abbrev filler : ℕ × Statement
  filler = (0, new_statement Initial (new_place 0 0 1 1) Zero)

  filler_fits : FitsPair size filler
  filler_fits = (omega (arith, lawful.some), record { question = omega (arith, lawful.asks); origin = omega (arith, lawful.some); from_one = omega arith; to_last = omega arith; value = tt })

  fillers : (k : ℕ) → All (FitsPair size) (replicate k filler)
  fillers zero i d l = absurd (omega (arith, l))
  fillers (suc k) zero d l = filler_fits
  fillers (suc k) (suc i) d l = fillers k i d (omega (arith, l))

  long : (k : ℕ) → length (replicate k filler) ≡ k
  long zero = refl
  long (suc k) = ap suc (long k)

  map_more : (xs ys : List (ℕ × Statement)) → map pair_line (xs ++ ys) ≡ map pair_line xs ++ map pair_line ys
  map_more [] ys = refl
  map_more (x ∷ xs) ys = ap (λ l. pair_line x ∷ l) (map_more xs ys)

  -- no lines begin a transcript
  pub begins_empty : Begins size []
  begins_empty = record {
    shown = record { question = 0; bit = false; pairs = [] };
    fits = record { asked = omega (arith, lawful.asks); counted = omega arith; each = λ k d l. absurd (omega (arith, l)) };
    more = head_line 0 false 0 ∷ [];
    whole = refl;
  }

  -- good lines begin one, as long as they aren't too many
  pub begins_good : (q : ℕ) (b : Bool) (count : ℕ) (good : List (ℕ × Statement)) → q < size.questions → count < 2 ^ 64 → All (FitsPair size) good → length good ≤ count
      → Begins size (head_line q b count ∷ map pair_line good)
  begins_good q b count good asked small fits few =
      let rest : List (ℕ × Statement) = replicate (count - length good) filler in
      let all : length (good ++ rest) ≡ count = omega (arith, length-append good rest, long (count - length good), few) in
      record {
        shown = record { question = q; bit = b; pairs = good ++ rest };
        fits = record { asked = asked; counted = omega (arith, all, small); each = All-append (FitsPair size) good rest fits (fillers (count - length good)) };
        more = map pair_line rest;
        whole = (λ i. head_line q b (all i) ∷ map_more good rest i);
      }

  -- one line more than the first one counts, or one that isn't one, begins none
  pub begins_none : (q : ℕ) (b : Bool) (count : ℕ) (good : List (ℕ × Statement)) (line : List ℕ) → q < size.questions → count < 2 ^ 64
      → (length good ≡ count) ⊎ IsNoPair size line → Begins size ((head_line q b count ∷ map pair_line good) ++ line ∷ []) → ⊥
  begins_none q b count good line asked small bad begins =
      let pairs : List (ℕ × Statement) = begins.shown.pairs in
      let parts = heads (head_line begins.shown.question begins.shown.bit (length pairs)) (head_line q b count) (map pair_line pairs) ((map pair_line good ++ line ∷ []) ++ begins.more) begins.whole in
      let counted : length pairs ≡ count =
      same_count begins.shown.question q begins.shown.bit b (length pairs) count (questions_few begins.shown.question begins.fits.asked) (questions_few q asked) begins.fits.counted small parts.0 in
      let longer : length pairs ≡ length good + 1 + length begins.more =
      omega (arith, ap (λ (l : List (List ℕ)). length l) parts.1, length-map pairs pair_line, length-map good pair_line, length-append (map pair_line good ++ line ∷ []) begins.more, length-append (map pair_line good) (line ∷ [])) in
      step bad counted longer parts.1
    where
      at : (xs ys : List (List ℕ)) → get_or ((xs ++ line ∷ []) ++ ys) (length xs) [] ≡ line
      at [] ys = refl
      at (x ∷ xs) ys = at xs ys

      of_map : (xs : List (ℕ × Statement)) (k : ℕ) → k < length xs → get_or (map pair_line xs) k [] ≡ pair_line (get_or xs k filler)
      of_map [] k l = absurd (omega (arith, l))
      of_map (x ∷ xs) zero l = refl
      of_map (x ∷ xs) (suc k) l = of_map xs k (omega (arith, l))

      step : (length good ≡ count) ⊎ IsNoPair size line → length begins.shown.pairs ≡ count → length begins.shown.pairs ≡ length good + 1 + length begins.more
          → map pair_line begins.shown.pairs ≡ (map pair_line good ++ line ∷ []) ++ begins.more → ⊥
      step (inl full) counted longer same = absurd (omega (arith, full, counted, longer))
      step (inr never) counted longer same =
          let within : length good < length begins.shown.pairs = omega (arith, longer) in
          let there : get_or (map pair_line begins.shown.pairs) (length good) [] ≡ line =
          ap (λ (l : List (List ℕ)). get_or l (length good) []) same
          ∙ ap (λ (k : ℕ). get_or ((map pair_line good ++ line ∷ []) ++ begins.more) k []) (sym (length-map good pair_line))
          ∙ at (map pair_line good) begins.more in
          never (get_or begins.shown.pairs (length good) filler) (begins.fits.each (length good) filler within)
          (sym there ∙ of_map begins.shown.pairs (length good) within)

  -- too few lines are none
  pub none_short : (q : ℕ) (b : Bool) (count : ℕ) (good : List (ℕ × Statement)) → q < size.questions → count < 2 ^ 64 → length good < count
      → IsNone size (head_line q b count ∷ map pair_line good)
  none_short q b count good asked small short shown fits same =
      let parts = heads (head_line shown.question shown.bit (length shown.pairs)) (head_line q b count) (map pair_line shown.pairs) (map pair_line good) same in
      let counted : length shown.pairs ≡ count =
      same_count shown.question q shown.bit b (length shown.pairs) count (questions_few shown.question fits.asked) (questions_few q asked) fits.counted small parts.0 in
      omega (arith, ap (λ (l : List (List ℕ)). length l) parts.1, length-map shown.pairs pair_line, length-map good pair_line, counted, short)

  -- a text without a line
  pub bad_empty : (text : List ℕ) → length text ≡ 0 → IsBadAt size text 1
  bad_empty (byte ∷ text) some = absurd (omega (arith, some))
  bad_empty [] none = record {
    good = [];
    others = [];
    lines = refl;
    begins = begins_empty;
    bad = λ shown fits same. cc same;
    counted = refl;
  }

  -- a first line that isn't one
  pub bad_head : (text line rest : List ℕ) → lines_of text ≡ line ∷ lines_of rest
      → ((q : ℕ) (b : Bool) (count : ℕ) → q < size.questions → count < 2 ^ 64 → line ≡ head_line q b count → ⊥) → IsBadAt size text 1
  bad_head text line rest lines never = record {
    good = [];
    others = line ∷ lines_of rest;
    lines = lines;
    begins = begins_empty;
    bad = λ begins. never begins.shown.question begins.shown.bit (length begins.shown.pairs) begins.fits.asked begins.fits.counted
        (sym (heads (head_line begins.shown.question begins.shown.bit (length begins.shown.pairs)) line (map pair_line begins.shown.pairs) begins.more begins.whole).0);
    counted = refl;
  }

  -- a line behind it that isn't one, or is missing
  pub bad_rest : (text rest : List ℕ) (q : ℕ) (b : Bool) (count number : ℕ) → q < size.questions → count < 2 ^ 64 → lines_of text ≡ head_line q b count ∷ lines_of rest
      → EndsAt size count rest number → IsBadAt size text number
  bad_rest text rest q b count number asked small lines ends = record {
    good = head_line q b count ∷ map pair_line ends.good;
    others = ends.others;
    lines = lines ∙ ap (λ (l : List (List ℕ)). head_line q b count ∷ l) ends.lines;
    begins = begins_good q b count ends.good asked small ends.fits ends.few;
    bad = step ends.others ends.bad;
    counted = omega (arith, ends.number_is, length-map ends.good pair_line);
  }
    where
      step : (others : List (List ℕ)) → IsBadRest size count (length ends.good) others → IsBadNext size (head_line q b count ∷ map pair_line ends.good) others
      step [] short = none_short q b count ends.good asked small short
      step (line ∷ others) bad = begins_none q b count ends.good line asked small bad
