-- A text is cut at the first such byte in one way only.
use Rattle.std.proofs.Common.{ℕ, suc, ◌≡◌, ◌+◌, ◌-◌, ◌==◌, Bool, true, false, cond, refl, sym, ap, ◌∙◌, subst, arith, Option, Some, None, List, [], ◌∷◌, ◌++◌, take, drop, length, take_all, length-drop, eqb-true, unwrap_or}
use Rattle.std.specs.List.{position_from}
use Rattle.gateway.specs.Queries.{IsAfter, IsAfterQuery, IsPosition, Lacks}
use Rattle.gateway.specs.declared.queries.Position.{Position}
use Rattle.std.proofs.lemmas.Bool.Decides.{nat_tests}

abbrev is_mark : ℕ → ℕ → Bool
is_mark mark byte = byte == mark

-- a text cut at the first such byte
record Cut (mark : ℕ) (line : List ℕ) (at : ℕ) : Type 0 where
  whole : line ≡ take at line ++ mark ∷ drop (suc at) line
  none : Lacks mark (take at line)

cut_at : (mark i k : ℕ) (line : List ℕ) → position_from (is_mark mark) i line ≡ Some k → (d : ℕ) × (k ≡ i + d) × Cut mark line d
cut_at mark i k [] h = cc
cut_at mark i k (c ∷ cs) h = step (c == mark) refl h (cut_at mark (i + 1) k cs)
  where
    step : (b : Bool) → (c == mark) ≡ b → cond b (Some i) (position_from (is_mark mark) (i + 1) cs) ≡ Some k
        → (position_from (is_mark mark) (i + 1) cs ≡ Some k → (d : ℕ) × (k ≡ i + 1 + d) × Cut mark cs d) → (d : ℕ) × (k ≡ i + d) × Cut mark (c ∷ cs) d
    step true e g go =
        let f : i ≡ k = cc in
        (0, omega arith, record { whole = ap (λ x. x ∷ cs) (eqb-true c mark e); none = tt })
    step false e g go =
        let r = go g in
        let l : k ≡ i + 1 + r.0 = r.1 in
        (suc r.0, omega arith, record { whole = ap (λ xs. c ∷ xs) (r.2.whole); none = (e, r.2.none) })

-- the parts that the code takes there
pub cut_here : (mark at : ℕ) (line : List ℕ) → Some at ≡ position_from (is_mark mark) 0 line
    → (line ≡ take at line ++ mark ∷ take (length line - (at + 1)) (drop (at + 1) line)) × Lacks mark (take at line)
cut_here mark at line h = step (cut_at mark 0 at line (sym h))
  where
    all : (d : ℕ) → at ≡ 0 + d → take (length line - (at + 1)) (drop (at + 1) line) ≡ drop (suc d) line
    all d e =
        let f : at + 1 ≡ suc d = omega arith in
        rw f (take_all (length line - suc d) (drop (suc d) line) (let l = length-drop (suc d) line in omega arith))

    step : (d : ℕ) × (at ≡ 0 + d) × Cut mark line d
        → (line ≡ take at line ++ mark ∷ take (length line - (at + 1)) (drop (at + 1) line)) × Lacks mark (take at line)
    step r =
        let e : at ≡ r.0 = omega (arith, r.1) in
        (rw (all r.0 r.1, e) r.2.whole, rw e r.2.none)

-- a text without such a byte
pub markless : (mark i : ℕ) (line : List ℕ) → position_from (is_mark mark) i line ≡ None → Lacks mark line
markless mark i [] h = tt
markless mark i (c ∷ cs) h = step (c == mark) refl h (markless mark (i + 1) cs)
  where
    step : (b : Bool) → (c == mark) ≡ b → cond b (Some i) (position_from (is_mark mark) (i + 1) cs) ≡ None
        → (position_from (is_mark mark) (i + 1) cs ≡ None → Lacks mark cs) → Lacks mark (c ∷ cs)
    step true e g go = cc
    step false e g go = (e, go g)

-- a byte that is the mark and isn't
not_itself : (mark : ℕ) → (mark == mark) ≡ false → ⊥
not_itself mark e = let same : (mark == mark) ≡ true = grind arith in cc

-- there is one way to cut a text at such a byte with none before it
pub one_cut : (mark : ℕ) (d e g h : List ℕ) → Lacks mark d → Lacks mark e → d ++ mark ∷ g ≡ e ++ mark ∷ h → (d ≡ e) × (g ≡ h)
one_cut mark [] [] g h n m q = let t : g ≡ h = cc in (refl, t)
one_cut mark [] (c ∷ e) g h n m q =
    let t : c ≡ mark = cc in
    absurd (not_itself mark (subst (λ (x : ℕ). (x == mark) ≡ false) t m.0))
one_cut mark (c ∷ d) [] g h n m q =
    let t : c ≡ mark = cc in
    absurd (not_itself mark (subst (λ (x : ℕ). (x == mark) ≡ false) t n.0))
one_cut mark (c ∷ d) (b ∷ e) g h n m q =
    let t : c ≡ b = cc in
    let u : d ++ mark ∷ g ≡ e ++ mark ∷ h = cc in
    let r = one_cut mark d e g h n.1 m.1 u in
    (rw (t, r.0) refl, r.1)

-- a text without such a byte has none to cut it at
pub no_cut : (mark : ℕ) (line d h : List ℕ) → Lacks mark line → line ≡ d ++ mark ∷ h → ⊥
no_cut mark [] [] h n q = cc
no_cut mark [] (c ∷ d) h n q = cc
no_cut mark (b ∷ line) [] h n q =
    let t : b ≡ mark = cc in
    not_itself mark (subst (λ (x : ℕ). (x == mark) ≡ false) t n.0)
no_cut mark (b ∷ line) (c ∷ d) h n q = let u : line ≡ d ++ mark ∷ h = cc in no_cut mark line d h n.1 u

-- nothing is no number
pub never : {A : Type 0} (x : A) → None ≡ Some x → ⊥
never x e = cc

-- a pair that is found is the one
pub same_first : (a b c d : ℕ) → ◌≡◌ {A = Option (ℕ × ℕ)} (Some (a, b)) (Some (c, d)) → a ≡ c
same_first a b c d e = ap (λ (o : Option (ℕ × ℕ)). (unwrap_or o (a, b)).0) e

pub same_second : (a b c d : ℕ) → ◌≡◌ {A = Option (ℕ × ℕ)} (Some (a, b)) (Some (c, d)) → b ≡ d
same_second a b c d e = ap (λ (o : Option (ℕ × ℕ)). (unwrap_or o (a, b)).1) e

-- the position of the last event that was seen, or else that of the query
pub after_query : (query last : List ℕ) (at : Position) → true ≡ (length last == 0) → IsAfter query last at → IsAfterQuery query at
after_query query [] at empty is = is
after_query query (byte ∷ last) at empty is =
    let some : (length (byte ∷ last) == 0) ≡ false = grind (arith, nat_tests) in
    let no : true ≡ false = empty ∙ some in
    absurd (cc)

pub after_last : (query last : List ℕ) (at : Position) → false ≡ (length last == 0) → IsAfter query last at → IsPosition last at
after_last query [] at some is = let no : false ≡ true = some in absurd (cc)
after_last query (byte ∷ last) at some is = is
