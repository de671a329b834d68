-- Times, as words write them.
use Rattle.std.proofs.Common.{ℕ, zero, suc, ◌≡◌, ◌≢◌, ◌<◌, ◌+◌, ◌∙◌, refl, sym, subst, arith, List, [], ◌∷◌, ◌++◌, length, get_or, inl, inr}
use Rattle.std.proofs.lemmas.List.{append_cancel_right}
use Rattle.std.specs.Str.Parse.{AllDigits}
use Rattle.std.specs.Char.{digit_value}
use Rattle.numerals.specs.Numbers.{IsBelow}
use Rattle.settings.specs.Marks.{LacksMark}
use Rattle.commands.specs.Patience.{AreParts, IsPatience, IsSeconds, IsWhole}

-- no index has the mark
pub lacks_at : (mark : ℕ) (front : List ℕ) → LacksMark mark front → (i : ℕ) → i < length front → get_or front i 0 ≢ mark
lacks_at mark [] h i l = absurd (omega arith)
lacks_at mark (c ∷ cs) h zero l = h.0
lacks_at mark (c ∷ cs) h (suc i) l = lacks_at mark cs h.1 i (omega arith)

-- decimal digits lack what is none
digits_lack : (mark : ℕ) (ds : List ℕ) → (digit_value mark < 10 → ⊥) → AllDigits 10 ds → LacksMark mark ds
digits_lack mark [] none h = tt
digits_lack mark (c ∷ cs) none h = (λ e. none (subst (λ x. digit_value x < 10) e h.0), digits_lack mark cs none h.1)

lacks-append : (mark : ℕ) (xs ys : List ℕ) → LacksMark mark xs → LacksMark mark ys → LacksMark mark (xs ++ ys)
lacks-append mark [] ys g h = h
lacks-append mark (c ∷ xs) ys g h = (g.0, lacks-append mark xs ys g.1 h)

-- what has the mark doesn't lack it
has_mark : (mark : ℕ) (front rest : List ℕ) → LacksMark mark (front ++ mark ∷ rest) → ⊥
has_mark mark [] rest h = h.0 refl
has_mark mark (c ∷ front) rest h = has_mark mark front rest h.1

no_point : digit_value 46 < 10 → ⊥
no_point h = omega (arith, h)

no_unit : digit_value 115 < 10 → ⊥
no_unit h = omega (arith, h)

below_lacks_point : (digits : List ℕ) (n : ℕ) → IsBelow 16 digits n → LacksMark 46 digits
below_lacks_point digits n h = digits_lack 46 digits no_point h.number_is.digits_are.1

below_lacks_unit : (digits : List ℕ) (n : ℕ) → IsBelow 16 digits n → LacksMark 115 digits
below_lacks_unit digits n h = digits_lack 115 digits no_unit h.number_is.digits_are.1

-- seconds have no `s`
seconds_lack_unit : (text : List ℕ) (time : ℕ) → IsSeconds text time → LacksMark 115 text
seconds_lack_unit text time (inl h) = below_lacks_unit text h.0 h.1
seconds_lack_unit text time (inr h) =
    subst (LacksMark 115) (sym h.2)
    (lacks-append 115 h.0 (46 ∷ h.1) (below_lacks_unit h.0 h.3.0 h.3.2) ((λ e. omega (arith, e)), below_lacks_unit h.1 h.3.3.0 h.3.3.1))

-- with an `s` at its end a text has seconds in front of that
pub patience_before : (text front : List ℕ) (time : ℕ) → text ≡ front ++ 115 ∷ [] → IsPatience text time → IsSeconds front time
patience_before text front time e (inl is) = absurd (has_mark 115 front [] (subst (LacksMark 115) e (seconds_lack_unit text time is)))
patience_before text front time e (inr h) = subst (λ (l : List ℕ). IsSeconds l time) (append_cancel_right h.0 front (115 ∷ []) (sym h.1 ∙ e)) h.2

-- without one it has seconds
pub patience_alone : (text : List ℕ) (time : ℕ) → ((front : List ℕ) → text ≡ front ++ 115 ∷ [] → LacksMark 115 front → ⊥) → IsPatience text time → IsSeconds text time
patience_alone text time none (inl is) = is
patience_alone text time none (inr h) = absurd (none h.0 h.1 (seconds_lack_unit h.0 time h.2))

-- with a point they are what stands before and behind the first
pub parts_before : (text front digits : List ℕ) (time : ℕ) → text ≡ front ++ 46 ∷ digits
    → ((f b : List ℕ) → text ≡ f ++ 46 ∷ b → LacksMark 46 f → (front ≡ f) × (digits ≡ b)) → IsSeconds text time → AreParts front digits time
parts_before text front digits time e only (inl h) = absurd (has_mark 46 front digits (subst (LacksMark 46) e (below_lacks_point text h.0 h.1)))
parts_before text front digits time e only (inr h) =
    let same = only h.0 h.1 h.2 (below_lacks_point h.0 h.3.0 h.3.2) in
    subst (λ (f : List ℕ). AreParts f digits time) (sym same.0) (subst (λ (d : List ℕ). AreParts h.0 d time) (sym same.1) h.3)

-- without one they are whole
pub whole_alone : (text : List ℕ) (time : ℕ) → ((f b : List ℕ) → text ≡ f ++ 46 ∷ b → LacksMark 46 f → ⊥) → IsSeconds text time → IsWhole text time
whole_alone text time none (inl is) = is
whole_alone text time none (inr h) = absurd (none h.0 h.1 h.2 (below_lacks_point h.0 h.3.0 h.3.2))
