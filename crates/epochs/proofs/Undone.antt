-- The list of the epochs that aren't done.
use Rattle.std.proofs.Common.{ℕ, ◌≡◌, ◌≢◌, ◌⊎◌, ◌+◌, ◌<◌, ◌≤◌, ◌==◌, inl, inr, zero, suc, Bool, true, false, not, cond, List, [], ◌∷◌, Option, length, filter, IfSome, slice_get, refl, sym, ap, ◌∙◌, subst, arith}
use Rattle.std.specs.List.{Contains}
use Rattle.std.specs.Global.{Vec}
use Rattle.epochs.specs.Opens.{IsKept, IsMadeFor, IsMissed, WasLeftOut}
use Rattle.epochs.specs.declared.state.State.{State}
use Rattle.epochs.specs.declared.verdicts.Verdicts.{Verdicts}
use Rattle.std.proofs.lemmas.Bool.{eq-eqb}
use Rattle.std.proofs.lemmas.Bool.Decides.{nat_tests}
use Rattle.std.proofs.lemmas.Option.{slice_get_past}
use Rattle.std.proofs.lemmas.List.Elements.{Contains-append_cases, Contains-append_left, Contains-append_right, All-contains, filter_passes}

-- what passes stays
Contains-filter : {X : Type 0} (p : X → Bool) (xs : List X) (x : X) → p x ≡ true → Contains xs x → Contains (filter p xs) x
Contains-filter p [] x passes (k, within, is) = absurd (omega (arith, within))
Contains-filter {X} p (y ∷ ys) x passes (zero, within, is) =
    subst (λ (b : Bool). Contains (cond b (y ∷ filter p ys) (filter p ys)) x) (sym (ap p is ∙ passes)) (zero, omega arith, is)
Contains-filter {X} p (y ∷ ys) x passes (suc k, within, is) = by (p y) (Contains-filter p ys x passes (k, omega (arith, within), is)) where
  by : (b : Bool) → Contains (filter p ys) x → Contains (cond b (y ∷ filter p ys) (filter p ys)) x
  by true has = Contains-append_right (y ∷ []) (filter p ys) x has
  by false has = has

-- what passed was there
Contains-from_filter : {X : Type 0} (p : X → Bool) (xs : List X) (x : X) → Contains (filter p xs) x → Contains xs x
Contains-from_filter p [] x has = has
Contains-from_filter {X} p (y ∷ ys) x has = by (p y) (Contains-from_filter p ys x) has where
  by : (b : Bool) → (Contains (filter p ys) x → Contains ys x) → Contains (cond b (y ∷ filter p ys) (filter p ys)) x → Contains (y ∷ ys) x
  by true within has = elim (Contains-append_cases (y ∷ []) (filter p ys) x has) [
    | inl here ↦ Contains-append_left (y ∷ []) ys x here
    | inr later ↦ Contains-append_right (y ∷ []) ys x (within later)
  ]
  by false within has = Contains-append_right (y ∷ []) ys x (within has)

-- those but this epoch
abbrev without : ℕ → List ℕ → List ℕ
without epoch undone = filter (λ one. not (one == epoch)) undone

pub others_stay : (epoch : ℕ) (undone less : List ℕ) → less ≡ without epoch undone → (other : ℕ) → other ≢ epoch → Contains undone other → Contains less other
others_stay epoch undone less is other differs has =
    subst (λ (l : List ℕ). Contains l other) (sym is) (Contains-filter (λ one. not (one == epoch)) undone other (passes other epoch differs) has)
  where
    passes : (other epoch : ℕ) → other ≢ epoch → not (other == epoch) ≡ true
    passes other epoch differs = grind (arith, nat_tests)

pub it_goes : (epoch : ℕ) (undone less : List ℕ) → less ≡ without epoch undone → Contains less epoch → ⊥
it_goes epoch undone less is has =
    let p : ℕ → Bool = λ one. not (one == epoch) in
    let passes = All-contains (λ one. p one ≡ true) (filter p undone) epoch (filter_passes p undone) (subst (λ (l : List ℕ). Contains l epoch) is has) in
    let fails = ap not (eq-eqb epoch epoch refl) in
    cc

pub it_stood : (epoch : ℕ) (undone less : List ℕ) → less ≡ without epoch undone → (other : ℕ) → Contains less other → Contains undone other
it_stood epoch undone less is other has =
    Contains-from_filter (λ one. not (one == epoch)) undone other (subst (λ (l : List ℕ). Contains l other) is has)

-- one that comes by the call of an epoch from first to end is of these
pub of_these : {Old Now : Type 0} (Kept : ℕ → Type 0) (first epoch end one : ℕ) → first ≤ epoch → epoch < end
    → (Now → Old ⊎ ((first ≤ one) × (one < end) × Kept one)) → Now ⊎ ((one ≡ epoch) × Kept epoch)
    → Old ⊎ ((first ≤ one) × (one < end) × Kept one)
of_these Kept first epoch end one from to before by = elim by [
  | inl now ↦ before now
  | inr new ↦ inr (omega (arith, from, new.0), omega (arith, to, new.0), subst Kept (sym new.0) new.1)
]

pub kept_alike : (old now : State) (epoch : ℕ) → now.verdicts ≡ old.verdicts → IsKept now epoch → IsKept old epoch
kept_alike old now epoch same kept = subst (λ (v : Vec Verdicts). IfSome (slice_get v.items epoch) (λ verdicts. 0 < length verdicts.cells.items)) same kept

-- the journal of an epoch that isn't made yet wasn't put away
pub kept_past : (state : State) (epoch : ℕ) → length state.verdicts.items ≤ epoch → IsKept state epoch
kept_past state epoch past =
    subst (λ (one : Option Verdicts). IfSome one (λ verdicts. 0 < length verdicts.cells.items)) (sym (slice_get_past state.verdicts.items epoch past)) tt

-- once one more is made, those before the epoch are called
pub made_one_more : (old before called new : State) (epoch made : ℕ) → length before.verdicts.items ≡ made → called.verdicts ≡ before.verdicts
    → length new.verdicts.items ≡ made + 1 → new.undone ≡ called.undone
    → ((one : ℕ) → IsMadeFor old before epoch one → Contains before.undone.items one)
    → ((one : ℕ) → Contains before.undone.items one → Contains called.undone.items one)
    → (made < epoch → IsKept before made → Contains called.undone.items made)
    → (one : ℕ) → IsMadeFor old new epoch one → Contains new.undone.items one
made_one_more old before called new epoch made count same longer alike so stay by one is =
    subst (λ (u : Vec ℕ). Contains u.items one) (sym alike) (elim (at_or_before one made (omega (arith, is.made, longer))) [
      | inl here ↦ subst (λ n. Contains called.undone.items n) (sym here) (by (omega (arith, is.before, here)) (kept_past before made (omega (arith, count))))
      | inr behind ↦ stay one (so one record { missed = is.missed; made = omega (arith, behind, count); before = is.before })
    ])
  where
    at_or_before : (one made : ℕ) → one < made + 1 → (one ≡ made) ⊎ (one < made)
    at_or_before one made within = grind (arith, within)

-- an epoch that is called before it is made had no journal
pub only_missed : {Before Now : Type 0} (old : State) (begun : List ℕ) (epoch made one : ℕ) → length old.verdicts.items ≤ made
    → (Before → Contains begun one ⊎ IsMissed old epoch one) → (Now → Before ⊎ ((one ≡ made) × (made < epoch)))
    → Now → Contains begun one ⊎ IsMissed old epoch one
only_missed old begun epoch made one least before by now = elim (by now) [
  | inl stood ↦ before stood
  | inr new ↦ inr record { missed = omega (arith, least, new.0); before = omega (arith, new.0, new.1) }
]

-- where none more is made, those before the epoch stay called
pub made_no_more : (old before called new : State) (epoch : ℕ) → new.verdicts.items ≡ before.verdicts.items → new.undone ≡ called.undone
    → ((one : ℕ) → IsMadeFor old before epoch one → Contains before.undone.items one)
    → ((one : ℕ) → Contains before.undone.items one → Contains called.undone.items one)
    → (one : ℕ) → IsMadeFor old new epoch one → Contains new.undone.items one
made_no_more old before called new epoch same alike left stay one is =
    subst (λ (u : Vec ℕ). Contains u.items one) (sym alike)
    (stay one (left one record { missed = is.missed; made = subst (λ (l : List Verdicts). one < length l) same is.made; before = is.before }))

-- what is called, and then what is made, changes nothing else
pub made_rest : (old before called : State) (pushed : Vec Verdicts) → before ≡ record old { changes = before.changes; verdicts = before.verdicts; undone = before.undone }
    → called ≡ record before { changes = called.changes; undone = called.undone }
    → record called { verdicts = pushed } ≡ record old { changes = called.changes; verdicts = pushed; undone = called.undone }
made_rest old before called pushed first second =
    ap (λ (s : State). record s { verdicts = pushed }) second
    ∙ ap (λ (s : State). record s { changes = called.changes; verdicts = pushed; undone = called.undone }) first

-- what a state leaves out, one that has the same journals leaves out
pub left_out_alike : (old now : State) (newest epoch : ℕ) → now.newest ≡ old.newest → now.verdicts ≡ old.verdicts
    → WasLeftOut now newest epoch → WasLeftOut old newest epoch
left_out_alike old now newest epoch same kept left = record {
  behind = subst (λ (n : ℕ). n < epoch) same left.behind;
  before = left.before;
  made = subst (λ (v : Vec Verdicts). epoch < length v.items) kept left.made;
  kept = kept_alike old now epoch kept left.kept;
}

-- what is undone after a report stood so, or is what it names, or was left out
pub among : {Begun : Type 0} (old now : State) (epoch one : ℕ) → now.newest ≡ old.newest → now.verdicts ≡ old.verdicts → now.undone ≡ old.undone
    → (Begun → Contains now.undone.items one ⊎ WasLeftOut now epoch one) → Begun ⊎ (one ≡ epoch)
    → Contains old.undone.items one ⊎ ((one ≡ epoch) ⊎ WasLeftOut old epoch one)
among old now epoch one newest kept same before by = elim by [
  | inl begun ↦ elim (before begun) [
    | inl stood ↦ inl (subst (λ (u : Vec ℕ). Contains u.items one) same stood)
    | inr left ↦ inr (inr (left_out_alike old now epoch one newest kept left))
  ]
  | inr here ↦ inr (inl here)
]
