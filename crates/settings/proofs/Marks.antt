-- Texts that lack a mark, and texts cut at one.
use Rattle.std.proofs.Common.{ℕ, zero, suc, ◌≡◌, ◌≢◌, ◌<◌, sym, subst, arith, List, [], ◌∷◌, ◌++◌, length, get_or, codes, inl, inr}
use Rattle.std.specs.Str.Parse.{AllDigits}
use Rattle.std.specs.Char.{digit_value}
use Rattle.settings.specs.Words.{LacksMark, IsOctet, AreDotted, IsHost}

-- no index has the mark
pub lacks_at : (mark : ℕ) (front : List ℕ) → LacksMark mark front → (i : ℕ) → i < length front → get_or front i 0 ≢ mark
lacks_at mark [] h i l = absurd (omega arith)
lacks_at mark (c ∷ cs) h zero l = h.0
lacks_at mark (c ∷ cs) h (suc i) l = lacks_at mark cs h.1 i (omega arith)

-- decimal digits lack what is none
pub digits_lack : (mark : ℕ) (ds : List ℕ) → (digit_value mark < 10 → ⊥) → AllDigits 10 ds → LacksMark mark ds
digits_lack mark [] none h = tt
digits_lack mark (c ∷ cs) none h = (λ e. none (subst (λ x. digit_value x < 10) e h.0), digits_lack mark cs none h.1)

pub lacks-append : (mark : ℕ) (xs ys : List ℕ) → LacksMark mark xs → LacksMark mark ys → LacksMark mark (xs ++ ys)
lacks-append mark [] ys g h = h
lacks-append mark (c ∷ xs) ys g h = (g.0, lacks-append mark xs ys g.1 h)

no_point : digit_value 46 < 10 → ⊥
no_point h = omega (arith, h)

no_colon : digit_value 58 < 10 → ⊥
no_colon h = omega (arith, h)

pub octet_lacks_point : (digits : List ℕ) (octet : ℕ) → IsOctet digits octet → LacksMark 46 digits
octet_lacks_point digits octet h = digits_lack 46 digits no_point h.number_is.digits_are.1

-- octets with points have no colon
pub dotted_lacks_colon : (text octets : List ℕ) → AreDotted text octets → LacksMark 58 text
dotted_lacks_colon text [] h = absurd h
dotted_lacks_colon text (octet ∷ []) h = digits_lack 58 text no_colon h.number_is.digits_are.1
dotted_lacks_colon text (octet ∷ next ∷ octets) h =
    subst (LacksMark 58) (sym h.2)
    (lacks-append 58 h.0 (46 ∷ h.1) (digits_lack 58 h.0 no_colon h.3.number_is.digits_are.1)
    ((λ e. omega arith), dotted_lacks_colon h.1 (next ∷ octets) h.4))

localhost_lacks_colon : LacksMark 58 (codes "localhost")
localhost_lacks_colon = ((λ e. omega arith), ((λ e. omega arith), ((λ e. omega arith), ((λ e. omega arith), ((λ e. omega arith), ((λ e. omega arith), ((λ e. omega arith), ((λ e. omega arith), ((λ e. omega arith), tt)))))))))

-- nor has a host
pub host_lacks_colon : (text octets : List ℕ) → IsHost text octets → LacksMark 58 text
host_lacks_colon text octets (inl h) = subst (LacksMark 58) (sym h.0) localhost_lacks_colon
host_lacks_colon text octets (inr h) = dotted_lacks_colon text (h.0 ∷ h.1 ∷ h.2 ∷ h.3 ∷ []) h.5

-- `localhost` is no octets
pub localhost_is_not_dotted : (a b c d : ℕ) → AreDotted (codes "localhost") (a ∷ b ∷ c ∷ d ∷ []) → ⊥
localhost_is_not_dotted a b c d h = none h.0 h.1 h.2 h.3.number_is.digits_are
  where
    none : (digits rest : List ℕ) → codes "localhost" ≡ digits ++ 46 ∷ rest → (0 < length digits) × AllDigits 10 digits → ⊥
    none [] rest e n = omega (arith, n.0)
    none (x ∷ xs) rest e n =
        let f : 108 ≡ x = cc in
        let g : digit_value 108 < 10 = subst (λ x. digit_value x < 10) (sym f) n.1.0 in
        omega (arith, g)
