-- How questions end.
use Rattle.std.specs.Prelude.{ℕ, ◌&&◌, Bool, true, false, not, if◌then◌else◌, max, Option, Some, None, List, [], ◌∷◌}
use Rattle.std.specs.List.{list_any}
use Rattle.chances.specs.declared.ends.End.{End}
use Rattle.chances.specs.declared.ends.End.TheVariants.{Decided, Open, TwoAnswers}

-- it is a decision for this bit
abbrev pub is_for : Bool → Option (ℕ × Bool) → Bool
is_for bit None = false
is_for true (Some verdict) = verdict.1
is_for false (Some verdict) = not verdict.1

-- it is none
abbrev pub is_open : Option (ℕ × Bool) → Bool
is_open None = true
is_open (Some verdict) = false

-- the round of a decision, or 0
abbrev pub round_of : Option (ℕ × Bool) → ℕ
round_of None = 0
round_of (Some verdict) = verdict.0

-- the last round of these decisions
abbrev pub last_round : List (Option (ℕ × Bool)) → ℕ
last_round [] = 0
last_round (verdict ∷ verdicts) = max (round_of verdict) (last_round verdicts)

-- one decided each bit
abbrev pub has_two_answers : List (Option (ℕ × Bool)) → Bool
has_two_answers verdicts = list_any (is_for false) verdicts && list_any (is_for true) verdicts

-- how a question ended
abbrev pub end_of : List (Option (ℕ × Bool)) → End
end_of verdicts =
    if has_two_answers verdicts then TwoAnswers
    else (if list_any is_open verdicts then Open else Decided (last_round verdicts))

-- an end that is counted: two answers never are
abbrev pub IsCounted : End → Type 0
IsCounted (Decided round) = Unit {0}
IsCounted Open = Unit {0}
IsCounted TwoAnswers = ⊥
