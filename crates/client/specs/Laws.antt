-- What a reading is worth.
use Rattle.std.specs.Prelude.{ℕ, ◌≡◌, Bool, true, Option, Some, List}
use Rattle.terms_prelude.specs.Terms.{Size, has_decided}
use Rattle.world.specs.World.{World, IsCorrect}
use Rattle.client.specs.Readings.{IsDecision, first_word}

-- Where each correct member had saved the decision that it told first, what more than t told first is each saved decision.
abbrev pub IsDecidedAsRead : Size → (ℕ → Bool) → World → Type 0
IsDecidedAsRead size liars w =
    (words : List (ℕ × Bool)) (question : ℕ) (v : Bool) → IsDecision size words v
    → ((a : ℕ) (b : Bool) → IsCorrect size liars a → first_word words a ≡ Some b → (round : ℕ) × (has_decided (w.journal a) question round b ≡ true))
    → (a round : ℕ) (u : Bool) → IsCorrect size liars a → has_decided (w.journal a) question round u ≡ true → u ≡ v
