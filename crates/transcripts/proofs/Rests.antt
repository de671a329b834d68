-- How the lines behind the first one are read.
use Rattle.std.proofs.Common.{ℕ, zero, suc, ◌≡◌, ◌+◌, ◌<◌, ◌≤◌, ◌⊎◌, inl, inr, Bool, true, false, refl, sym, ap, subst, ◌∙◌, arith, List, [], ◌∷◌, ◌++◌, length, map, length-append, append_assoc, append-nil}
use Rattle.std.specs.List.{All}
use Rattle.std.proofs.lemmas.List.Elements.{All-append}
use Rattle.terms_prelude.specs.Terms.{Statement, Size}
use Rattle.numerals.specs.Lines.{lines_of, onto_line}
use Rattle.transcripts.specs.Lines.{pair_line}
use Rattle.transcripts.specs.Reading.{FitsPair, is_end}
use Rattle.transcripts.specs.Rests.{IsNoPair, IsBadRest, EndsAt}

-- good lines were read, and a rest is left
pub record AreRead (size : Size) (count : ℕ) (text : List ℕ) (good : List (ℕ × Statement)) (rest : List ℕ) (number : ℕ) : Type 0 where
  pub lines : lines_of text ≡ map pair_line good ++ lines_of rest
  pub fits : All (FitsPair size) good
  pub few : length good ≤ count
  pub number_is : number ≡ length good + 2

map_more : (xs ys : List (ℕ × Statement)) → map pair_line (xs ++ ys) ≡ map pair_line xs ++ map pair_line ys
map_more [] ys = refl
map_more (x ∷ xs) ys = ap (λ l. pair_line x ∷ l) (map_more xs ys)

only : (size : Size) (pair : ℕ × Statement) → FitsPair size pair → All (FitsPair size) (pair ∷ [])
only size pair fits zero d l = fits
only size pair fits (suc k) d l = absurd (omega (arith, l))

-- nothing was read yet
pub none_read : (size : Size) (count : ℕ) (text : List ℕ) (good : List (ℕ × Statement)) → good ≡ [] → AreRead size count text good text 2
none_read size count text good none =
    subst (λ (g : List (ℕ × Statement)). AreRead size count text g text 2) (sym none)
    (record { lines = refl; fits = λ k d l. absurd (omega (arith, l)); few = omega arith; number_is = refl })

-- one line more
pub one_read : (size : Size) (count : ℕ) (text : List ℕ) (good more : List (ℕ × Statement)) (rest line left : List ℕ) (number : ℕ) (pair : ℕ × Statement)
    → AreRead size count text good rest number → lines_of rest ≡ line ∷ lines_of left → FitsPair size pair → line ≡ pair_line pair → length good < count
    → more ≡ good ++ pair ∷ [] → AreRead size count text more left (number + 1)
one_read size count text good more rest line left number pair was cut fits is few longer =
    subst (λ (g : List (ℕ × Statement)). AreRead size count text g left (number + 1)) (sym longer)
    (record {
      lines = was.lines ∙ ap (λ (l : List (List ℕ)). map pair_line good ++ l) (cut ∙ (λ i. is i ∷ lines_of left))
          ∙ sym (append_assoc (map pair_line good) (pair_line pair ∷ []) (lines_of left))
          ∙ ap (λ (l : List (List ℕ)). l ++ lines_of left) (sym (map_more good (pair ∷ [])));
      fits = All-append (FitsPair size) good (pair ∷ []) was.fits (only size pair fits);
      few = omega (arith, length-append good (pair ∷ []), few);
      number_is = omega (arith, length-append good (pair ∷ []), was.number_is);
    })

-- all of them were read
pub all_read : (size : Size) (count : ℕ) (text : List ℕ) (good : List (ℕ × Statement)) (rest : List ℕ) (number : ℕ) → AreRead size count text good rest number → length rest ≡ 0
    → lines_of text ≡ map pair_line good
all_read size count text good [] number was none = was.lines ∙ append-nil (map pair_line good)
all_read size count text good (x ∷ rest) number was none = absurd (omega (arith, none))

-- a text that isn't empty has a line
some_line : (c : ℕ) (text : List ℕ) → (l : List ℕ) × (ls : List (List ℕ)) × (lines_of (c ∷ text) ≡ l ∷ ls)
some_line c text = step (is_end c) refl
  where
    onto : (ls : List (List ℕ)) → (l : List ℕ) × (more : List (List ℕ)) × (onto_line c ls ≡ l ∷ more)
    onto [] = (c ∷ [], [], refl)
    onto (l ∷ ls) = (c ∷ l, ls, refl)

    step : (b : Bool) → is_end c ≡ b → (l : List ℕ) × (ls : List (List ℕ)) × (lines_of (c ∷ text) ≡ l ∷ ls)
    step true e = ([], lines_of text, rw e refl)
    step false e = let o = onto (lines_of text) in (o.0, o.1, rw e o.2)

-- one line too many
pub one_too_many : (size : Size) (count : ℕ) (text : List ℕ) (good : List (ℕ × Statement)) (rest : List ℕ) (number : ℕ) → AreRead size count text good rest number
    → length good ≡ count → (length rest ≡ 0 → ⊥) → EndsAt size count text number
one_too_many size count text good [] number was full some = absurd (some refl)
one_too_many size count text good (c ∷ rest) number was full some =
    let l = some_line c rest in
    record {
      good = good;
      others = l.0 ∷ l.1;
      lines = was.lines ∙ ap (λ (ls : List (List ℕ)). map pair_line good ++ ls) l.2;
      fits = was.fits;
      few = was.few;
      bad = inl full;
      number_is = was.number_is;
    }

-- a line is missing
pub one_missing : (size : Size) (count : ℕ) (text : List ℕ) (good : List (ℕ × Statement)) (rest : List ℕ) (number : ℕ) → AreRead size count text good rest number
    → length good < count → length rest ≡ 0 → EndsAt size count text number
one_missing size count text good [] number was short none = record {
  good = good;
  others = [];
  lines = was.lines;
  fits = was.fits;
  few = was.few;
  bad = short;
  number_is = was.number_is;
}
one_missing size count text good (c ∷ rest) number was short none = absurd (omega (arith, none))

-- a line isn't one
pub one_bad : (size : Size) (count : ℕ) (text : List ℕ) (good : List (ℕ × Statement)) (rest line left : List ℕ) (number : ℕ) → AreRead size count text good rest number
    → lines_of rest ≡ line ∷ lines_of left → IsNoPair size line → EndsAt size count text number
one_bad size count text good rest line left number was cut never = record {
  good = good;
  others = line ∷ lines_of left;
  lines = was.lines ∙ ap (λ (ls : List (List ℕ)). map pair_line good ++ ls) cut;
  fits = was.fits;
  few = was.few;
  bad = inr never;
  number_is = was.number_is;
}
