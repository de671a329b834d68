-- A line is cut at its first space in one way only.
use Rattle.std.proofs.Common.{ℕ, suc, ◌≡◌, ◌+◌, ◌<◌, Bool, true, false, cond, refl, sym, ap, ◌∙◌, subst, arith, Some, None, List, [], ◌∷◌, ◌++◌, take, drop, length, take_all, length-drop, ◌-◌, eqb-true}
use Rattle.std.specs.List.{position_from}
use Rattle.std.specs.Str.Parse.{AllDigits}
use Rattle.std.specs.Char.{digit_value}
use Rattle.numerals.specs.Spaces.{is_space, NoSpace}

-- a line cut at its first space
pub record Cut (line : List ℕ) (at : ℕ) : Type 0 where
  pub whole : line ≡ take at line ++ 32 ∷ drop (suc at) line
  pub none : NoSpace (take at line)

pub cut_at : (i k : ℕ) (line : List ℕ) → position_from is_space i line ≡ Some k → (d : ℕ) × (k ≡ i + d) × Cut line d
cut_at i k [] h = cc
cut_at i k (c ∷ cs) h = step (is_space c) refl h (cut_at (i + 1) k cs)
  where
    step : (b : Bool) → is_space c ≡ b → cond b (Some i) (position_from is_space (i + 1) cs) ≡ Some k
        → (position_from is_space (i + 1) cs ≡ Some k → (d : ℕ) × (k ≡ i + 1 + d) × Cut cs d) → (d : ℕ) × (k ≡ i + d) × Cut (c ∷ cs) d
    step true e g go =
        let f : i ≡ k = cc in
        (0, omega arith, record { whole = ap (λ x. x ∷ cs) (eqb-true c 32 e); none = tt })
    step false e g go =
        let r = go g in
        let l : k ≡ i + 1 + r.0 = r.1 in
        (suc r.0, omega arith, record { whole = ap (λ xs. c ∷ xs) (r.2.whole); none = (e, r.2.none) })

-- the parts that the code takes at the first space
pub cut_here : (at : ℕ) (line : List ℕ) → Some at ≡ position_from is_space 0 line
    → (line ≡ take at line ++ 32 ∷ take (length line - (at + 1)) (drop (at + 1) line)) × NoSpace (take at line)
cut_here at line h = step (cut_at 0 at line (sym h))
  where
    all : (d : ℕ) → at ≡ 0 + d → take (length line - (at + 1)) (drop (at + 1) line) ≡ drop (suc d) line
    all d e =
        let f : at + 1 ≡ suc d = omega arith in
        rw f (take_all (length line - suc d) (drop (suc d) line) (let l = length-drop (suc d) line in omega arith))

    step : (d : ℕ) × (at ≡ 0 + d) × Cut line d
        → (line ≡ take at line ++ 32 ∷ take (length line - (at + 1)) (drop (at + 1) line)) × NoSpace (take at line)
    step r =
        let e : at ≡ r.0 = omega (arith, r.1) in
        (rw (all r.0 r.1, e) r.2.whole, rw e r.2.none)

-- a line with no space has no cut
pub spaceless : (i : ℕ) (line : List ℕ) → position_from is_space i line ≡ None → NoSpace line
spaceless i [] h = tt
spaceless i (c ∷ cs) h = step (is_space c) refl h (spaceless (i + 1) cs)
  where
    step : (b : Bool) → is_space c ≡ b → cond b (Some i) (position_from is_space (i + 1) cs) ≡ None
        → (position_from is_space (i + 1) cs ≡ None → NoSpace cs) → NoSpace (c ∷ cs)
    step true e g go = cc
    step false e g go = (e, go g)

-- digits have no space
pub digits_spaceless : (ds : List ℕ) → AllDigits 10 ds → NoSpace ds
digits_spaceless [] h = tt
digits_spaceless (c ∷ cs) h = (step (is_space c) refl, digits_spaceless cs h.1)
  where
    step : (b : Bool) → is_space c ≡ b → is_space c ≡ false
    step true e =
        let f : c ≡ 32 = eqb-true c 32 e in
        let g : digit_value 32 < 10 = subst (λ x. digit_value x < 10) f h.0 in
        absurd (omega (arith, g))
    step false e = e

-- there is one way to cut a line at a space with none before it
pub one_cut : (d e g h : List ℕ) → NoSpace d → NoSpace e → d ++ 32 ∷ g ≡ e ++ 32 ∷ h → (d ≡ e) × (g ≡ h)
one_cut [] [] g h n m q = let t : g ≡ h = cc in (refl, t)
one_cut [] (c ∷ e) g h n m q =
    let t : 32 ≡ c = cc in
    let f : is_space 32 ≡ false = subst (λ x. is_space x ≡ false) (sym t) m.0 in
    cc
one_cut (c ∷ d) [] g h n m q =
    let t : c ≡ 32 = cc in
    let f : is_space 32 ≡ false = subst (λ x. is_space x ≡ false) t n.0 in
    cc
one_cut (c ∷ d) (b ∷ e) g h n m q =
    let t : c ≡ b = cc in
    let u : d ++ 32 ∷ g ≡ e ++ 32 ∷ h = cc in
    let r = one_cut d e g h n.1 m.1 u in
    (rw (t, r.0) refl, r.1)

-- a line with no space has none to cut it at
pub no_cut : (line d h : List ℕ) → NoSpace line → line ≡ d ++ 32 ∷ h → ⊥
no_cut [] [] h n q = cc
no_cut [] (c ∷ d) h n q = cc
no_cut (b ∷ line) [] h n q =
    let t : b ≡ 32 = cc in
    let f : is_space 32 ≡ false = subst (λ x. is_space x ≡ false) t n.0 in
    cc
no_cut (b ∷ line) (c ∷ d) h n q = let u : line ≡ d ++ 32 ∷ h = cc in no_cut line d h n.1 u

-- where there is no space none is found
pub no_position : (i : ℕ) (line : List ℕ) → NoSpace line → position_from is_space i line ≡ None
no_position i [] h = refl
no_position i (c ∷ cs) h = rw h.0 (no_position (i + 1) cs h.1)
