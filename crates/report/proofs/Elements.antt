-- How a picture grows by the text of an element.
use Rattle.std.proofs.Common.{ℕ, ◌≡◌, ◌==◌, ◌+◌, sym, ap, ◌∙◌, subst, Result, OnOk, string_bytes, codes, List, [], ◌∷◌, ◌++◌, append_assoc, append-nil, length, false, zero, suc, ◌<◌, ◌≤◌, arith, refl, Bor, Option, Some, None, IfSome, MatchOption, option_map, get_or, slice_get}
use Rattle.std.proofs.lemmas.Option.{slice_get_past}
use Rattle.std.specs.declared.alloc.AllocError.{AllocError}
use Rattle.std.proofs.lemmas.Grind.{flat_map-append}
use Rattle.std.proofs.lemmas.Result.{IfOk-weaker}
use Rattle.report.specs.declared.chart.drawing.Words.{Words}
use Rattle.report.specs.declared.chart.drawing.Drawing.{Drawing}
use Rattle.report.specs.Drawings.{Element, WordsAt, joined, element_text, picture_text, words_at, Grows}
use Rattle.std.specs.Fmt.{decimal}

pub drawn : (r : Result (Unit {0}) AllocError) (old new : Drawing) (text : List ℕ) (elements : List Element) → text ≡ picture_text elements
    → OnOk r (string_bytes new.text ≡ string_bytes old.text ++ text) → OnOk r (Grows old new elements)
drawn r old new text elements e h = subst (λ (t : List ℕ). OnOk r (string_bytes new.text ≡ string_bytes old.text ++ t)) e h

-- words that are some are one element
pub words_text : (what : Words) (x y : ℕ) (text : List ℕ) → (length text == 0) ≡ false
    → element_text (WordsAt what x y text) ≡ picture_text (words_at what x y text)
words_text what x y [] h = cc
words_text what x y (c ∷ text) h = sym (append-nil (element_text (WordsAt what x y (c ∷ text))))

-- a badge on a plate, and the words beside it
abbrev pub badge_on : List ℕ → ℕ → List ℕ → List ℕ → List ℕ
badge_on plate half badge text =
    joined (plate ∷ codes "<text class=\"verdict\" y=\"17\">" ∷ badge ∷ codes "</text><text class=\"said\" x=\"" ∷ decimal (half + 10)
    ∷ codes "\" y=\"17\">" ∷ text ∷ codes "</text></g>\n" ∷ [])

-- elements behind elements
pub grows_more : (old between new : Drawing) (some more : List Element) → Grows old between some → Grows between new more → Grows old new (some ++ more)
grows_more old between new some more a b =
    b ∙ ap (λ (t : List ℕ). t ++ picture_text more) a ∙ append_assoc (string_bytes old.text) (picture_text some) (picture_text more)
    ∙ ap (λ (t : List ℕ). string_bytes old.text ++ t) (sym (flat_map-append element_text some more))

-- elements, and then others where all goes well
pub and_then : (r : Result (Unit {0}) AllocError) (old between new : Drawing) (some more : List Element)
    → Grows old between some → OnOk r (Grows between new more) → OnOk r (Grows old new (some ++ more))
and_then r old between new some more a h =
    IfOk-weaker r (λ _. Grows between new more) (λ _. Grows old new (some ++ more)) (λ _ b. grows_more old between new some more a b) h

-- other words for the elements
pub named : (r : Result (Unit {0}) AllocError) (old new : Drawing) (elements others : List Element) → elements ≡ others
    → OnOk r (Grows old new elements) → OnOk r (Grows old new others)
named r old new elements others e h = subst (λ (l : List Element). OnOk r (Grows old new l)) e h

-- no elements
pub unchanged : (drawing : Drawing) (elements : List Element) → elements ≡ [] → Grows drawing drawing elements
unchanged drawing elements none = rw none (sym (append-nil (string_bytes drawing.text)))

item_at : {A : Type 0} (xs : List A) (i : ℕ) (d : A) → i < length xs → slice_get xs i ≡ Some (get_or xs i d)
item_at [] i d h = absurd (omega (arith, h))
item_at (x ∷ xs) zero d h = refl
item_at (x ∷ xs) (suc i) d h = item_at xs i d (omega (arith, h))

-- what a look at an index gives
pub looked_up : {A : Type 0} (xs : List A) (i : ℕ) (r : Option (Bor A)) (P : Bor A → Type 0) → MatchOption r (length xs ≤ i) (λ x. (i < length xs) × P x)
    → IfSome r (λ x. x.now ≡ get_or xs i x.now) → slice_get xs i ≡ option_map (λ x. x.now) r
looked_up xs i None P h is = slice_get_past xs i h
looked_up xs i (Some x) P h is = item_at xs i x.now h.0 ∙ ap Some (sym is)
