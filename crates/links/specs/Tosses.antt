-- Tosses that are drawn in order.
use Rattle.std.specs.Prelude.{ℕ, ◌≡◌, List, [], ◌∷◌, map}
use Rattle.terms_prelude.specs.Terms.{Statement}
use Rattle.rounds.specs.declared.tosses.Toss.{Toss}

-- the tosses of statements, in order
abbrev pub tosses_in : List (Statement × Toss) → List ℕ
tosses_in events = map (λ e. e.1.0) events

-- one tosser gave these tosses, one after another and no other, and is now that one
abbrev pub Draws : {T : Type 0} → (T → ℕ → T → Type 0) → T → List ℕ → T → Type 0
Draws may_toss old [] new = new ≡ old
Draws {T} may_toss old (toss ∷ tosses) new = (next : T) × may_toss old toss next × Draws may_toss next tosses new

-- one tosser gave some tosses, perhaps none, and is now that one
abbrev pub DrawsSome : {T : Type 0} → (T → ℕ → T → Type 0) → T → T → Type 0
DrawsSome may_toss old new = (tosses : List ℕ) × Draws may_toss old tosses new
