-- Members as bits of a number, and one more.
use Rattle.std.proofs.Common.{ℕ, ◌≡◌, ◌*◌, ◌%◌, ◌^◌, ◌<◌, ◌≤◌, ◌==◌, ◌||◌, ◌⊎◌, inl, inr, arith, Bool, true, false, eqb, refl, sym, ap, ◌∙◌, bit_or, w64, eq-eqb, ne_eqb, List, ◌∷◌}
use Rattle.std.proofs.lemmas.Bool.{cases_eq}
use Rattle.std.proofs.lemmas.Nat.Bits.{bit_at_set_same, bit_at_set_other}
use Rattle.std.specs.Int.{bit_at}
use Rattle.std.specs.List.{list_any}
use Rattle.asking.specs.Marks.{has_news, is_marked}
use Rattle.asking.specs.declared.board.News.{News}

or_true : (b : Bool) → (b || true) ≡ true
or_true true = refl
or_true false = refl

or_false : (b : Bool) → (b || false) ≡ b
or_false true = refl
or_false false = refl

or_assoc : (a b c : Bool) → ((a || b) || c) ≡ (a || (b || c))
or_assoc true b c = refl
or_assoc false b c = refl

-- a number from 64 on is no other's
pub no_member : (marks a b : ℕ) → 64 ≤ a → b < 64 → is_marked marks b ≡ (is_marked marks b || (a == b))
no_member marks a b far near =
    let differs : eqb a b ≡ false = ne_eqb a b (λ e. omega (arith, e, far, near)) in
    sym (ap (λ (t : Bool). is_marked marks b || t) differs ∙ or_false (is_marked marks b))

-- the bits with one more
pub one_more : (marks a b : ℕ) → a < 64 → is_marked (bit_or marks (1 * 2 ^ a % 2 ^ 64)) b ≡ (is_marked marks b || (a == b))
one_more marks a b l = step (cases_eq b a)
  where
    step : (b ≡ a) ⊎ (b ≡ a → ⊥) → is_marked (bit_or marks (1 * 2 ^ a % 2 ^ 64)) b ≡ (is_marked marks b || (a == b))
    step (inl e) =
        let x : bit_at (bit_or marks (1 * 2 ^ a % 2 ^ 64)) b ≡ 1 = ap (λ (i : ℕ). bit_at (bit_or marks (1 * 2 ^ a % 2 ^ 64)) i) e ∙ bit_at_set_same w64 marks a l in
        let y : eqb a b ≡ true = eq-eqb a b (sym e) in
        ap (λ (n : ℕ). eqb n 1) x ∙ sym (ap (λ (t : Bool). is_marked marks b || t) y ∙ or_true (is_marked marks b))
    step (inr n) =
        let x : bit_at (bit_or marks (1 * 2 ^ a % 2 ^ 64)) b ≡ bit_at marks b = bit_at_set_other w64 marks a l b n in
        let y : eqb a b ≡ false = ne_eqb a b (λ e. n (sym e)) in
        ap (λ (n : ℕ). eqb n 1) x ∙ sym (ap (λ (t : Bool). is_marked marks b || t) y ∙ or_false (is_marked marks b))

-- those with one member more, and those of the news that is left
pub news_on : (old new : ℕ) (one : News) (others : List News) (member : ℕ) → is_marked new member ≡ (is_marked old member || (one.member == member))
    → (is_marked new member || has_news others member) ≡ (is_marked old member || has_news (one ∷ others) member)
news_on old new one others member is =
    ap (λ (t : Bool). t || has_news others member) is ∙ or_assoc (is_marked old member) (one.member == member) (has_news others member)
