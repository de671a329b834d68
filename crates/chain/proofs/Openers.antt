-- Who opens an epoch.
use Rattle.std.proofs.Common.{ℕ, ◌≡◌, ◌+◌, ◌≤◌, ◌==◌, ◌&&◌, ◌||◌, inl, inr, refl, sym, subst, arith, Bool, true, false, [], ◌∷◌}
use Rattle.std.proofs.lemmas.Bool.Decides.{nat_tests}
use Rattle.terms_prelude.specs.Terms.{Size, count_below}
use Rattle.terms.proofs.Count.{Outside, has_outside}
use Rattle.world.specs.World.{IsCorrect}
use Rattle.chain.specs.Laws.{AreLawful, MayOpen, Openings, has_opened}

-- a correct member that has a proposal in the epoch, or past the one before it
abbrev HasProposer : Size → (ℕ → Bool) → (ℕ → ℕ) → ℕ → Type 0
HasProposer size liars newest epoch = (proposer : ℕ) × IsCorrect size liars proposer × (epoch ≤ newest proposer + 1)

abbrev AllHave : Size → (ℕ → Bool) → (ℕ → ℕ) → Openings → Type 0
AllHave size liars newest openings =
    (member epoch : ℕ) → IsCorrect size liars member → has_opened openings epoch member ≡ true → HasProposer size liars newest epoch

-- what one may open has one, where all that was opened before has
of_one : (size : Size) (liars : ℕ → Bool) (newest : ℕ → ℕ) → count_below size.n liars ≤ size.t → (before : Openings)
    → AllHave size liars newest before → (member epoch : ℕ) → IsCorrect size liars member → MayOpen size newest before member epoch
    → HasProposer size liars newest epoch
of_one size liars newest few before all member epoch correct (inl near) = (member, correct, near)
of_one size liars newest few before all member epoch correct (inr enough) =
    let other : Outside size.n (has_opened before epoch) liars = has_outside size.n (has_opened before epoch) liars (omega (arith, few, enough)) in
    all other.member epoch (record { member = other.below; honest = other.not_in }) other.passes

pub of_all : (size : Size) (liars : ℕ → Bool) (newest : ℕ → ℕ) → count_below size.n liars ≤ size.t → (openings : Openings)
    → AreLawful size liars newest openings → AllHave size liars newest openings
of_all size liars newest few [] lawful = λ member epoch correct has. absurd (cc (has))
of_all size liars newest few (one ∷ before) (rest, may) = λ member epoch correct has.
    step member epoch correct (of_all size liars newest few before rest) (one.0 == member && one.1 == epoch) refl has
  where
    step : (member epoch : ℕ) → IsCorrect size liars member → AllHave size liars newest before
        → (t : Bool) → (one.0 == member && one.1 == epoch) ≡ t → (t || has_opened before epoch member) ≡ true → HasProposer size liars newest epoch
    step member epoch correct all false is has = all member epoch correct has
    step member epoch correct all true is has =
        let same : one.0 ≡ member = grind (arith, nat_tests, is) in
        let also : one.1 ≡ epoch = grind (arith, nat_tests, is) in
        let opener : IsCorrect size liars one.0 = subst (λ (m : ℕ). IsCorrect size liars m) (sym same) correct in
        subst (λ (e : ℕ). HasProposer size liars newest e) also (of_one size liars newest few before all one.0 one.1 opener (may opener))
