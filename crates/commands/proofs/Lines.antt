-- Lines that are read one after another.
use Rattle.std.proofs.Common.{◌≡◌, ◌∙◌, ℕ, zero, suc, ◌+◌, ◌<◌, ◌≤◌, refl, sym, ap, subst, arith, List, [], ◌∷◌, ◌++◌, length, Option, Some, None, append_assoc, append-nil, length-append}
use Rattle.std.specs.Io.KnownBytes.{Consumes}
use Rattle.std.specs.List.{All, flat_map}
use Rattle.std.proofs.lemmas.Grind.{flat_map-append}
use Rattle.std.proofs.lemmas.List.Elements.{All-append}
use Rattle.numerals.specs.Lines.{NoEnd, line}
use Rattle.commands.specs.Transcripts.{AreLines, AreShown, lines_text}
use Rattle.commands.proofs.Reading.{reads_nothing}

-- what was read of known bytes, and then more
pub consumes_on : (a b c : Option (List ℕ)) (xs ys : List ℕ) → Consumes a b xs → Consumes b c ys → Consumes a c (xs ++ ys)
consumes_on None b c xs ys h g = tt
consumes_on (Some all) None c xs ys h g = absurd h
consumes_on (Some all) (Some rest) None xs ys h g = absurd g
consumes_on (Some all) (Some rest) (Some last) xs ys h g = h ∙ ap (λ (l : List ℕ). xs ++ l) g ∙ sym (append_assoc xs ys last)

-- of so many lines these are left; the others were read, and stand behind the text
pub record HasRead (old now : Option (List ℕ)) (text longer : List ℕ) (count left : ℕ) : Type 0 where
  pub lines : List (List ℕ)
  pub counted : length lines + left ≡ count
  pub no_ends : All NoEnd lines
  pub shown : All AreShown lines
  pub behind : longer ≡ text ++ lines_text lines
  pub read : Consumes old now (lines_text lines)

pub none_read : (old : Option (List ℕ)) (text : List ℕ) (count : ℕ) → HasRead old old text text count count
none_read old text count = record {
  lines = [];
  counted = omega arith;
  no_ends = λ k d l. absurd (omega (arith, l));
  shown = λ k d l. absurd (omega (arith, l));
  behind = sym (append-nil text);
  read = reads_nothing old;
}

text_more : (lines : List (List ℕ)) (one : List ℕ) → lines_text (lines ++ one ∷ []) ≡ lines_text lines ++ line one
text_more lines one = flat_map-append line lines (one ∷ []) ∙ ap (λ (l : List ℕ). lines_text lines ++ l) (append-nil (line one))

-- and one line more
pub one_read : (old now new : Option (List ℕ)) (text longer with_line last : List ℕ) (one bytes : List ℕ) (count left less : ℕ) → HasRead old now text longer count left
    → less + 1 ≡ left → NoEnd one → AreShown one → Consumes now new (one ++ 10 ∷ []) → bytes ≡ one → with_line ≡ longer ++ bytes → last ≡ with_line ++ 10 ∷ [] → HasRead old new text last count less
one_read old now new text longer with_line last one bytes count left less h fewer no_end are_shown read same more ended = record {
  lines = h.lines ++ one ∷ [];
  counted = omega (arith, length-append h.lines (one ∷ []), h.counted, fewer);
  no_ends = All-append NoEnd h.lines (one ∷ []) h.no_ends (only NoEnd one no_end);
  shown = All-append AreShown h.lines (one ∷ []) h.shown (only AreShown one are_shown);
  behind = ended ∙ (λ i. (more ∙ (λ j. h.behind j ++ same j)) i ++ 10 ∷ []) ∙ append_assoc (text ++ lines_text h.lines) one (10 ∷ [])
      ∙ append_assoc text (lines_text h.lines) (line one) ∙ ap (λ (l : List ℕ). text ++ l) (sym (text_more h.lines one));
  read = subst (λ (l : List ℕ). Consumes old new l) (sym (text_more h.lines one)) (consumes_on old now new (lines_text h.lines) (line one) h.read read);
}
  where
    only : (P : List ℕ → Type 0) (one : List ℕ) → P one → All P (one ∷ [])
    only P one holds zero d l = holds
    only P one holds (suc k) d l = absurd (omega (arith, l))

-- all were read
pub all_read : (old now : Option (List ℕ)) (text longer : List ℕ) (count left : ℕ) → HasRead old now text longer count left → left ≡ 0
    → (lines : List (List ℕ)) × AreLines count lines × (longer ≡ text ++ lines_text lines) × Consumes old now (lines_text lines)
all_read old now text longer count left h none = (h.lines, record { counted = omega (arith, h.counted, none); no_ends = h.no_ends; shown = h.shown }, h.behind, h.read)
