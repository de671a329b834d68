-- How far a member is on a question, by its own Initials.
use Rattle.std.specs.Prelude.{ℕ, ◌≡◌, ◌<◌, Option, None, IsSome, List, MatchOption}
use Rattle.terms_prelude.specs.Terms.{Initial, Place, Record, IsPlace, new_place, place_code, said}

-- its own Initial of that round and step is the last one that it said, by round and then step
pub record IsLastInitial (records : List Record) (me question : ℕ) (at : ℕ × ℕ) : Type 0 where
  pub place : IsPlace (new_place question me at.0 at.1)
  pub said_it : IsSome (said records Initial (new_place question me at.0 at.1))
  pub last : (p : Place) → IsPlace p → p.question ≡ question → p.origin ≡ me
      → place_code (new_place question me at.0 at.1) < place_code p → said records Initial p ≡ None

-- it said no own Initial
abbrev pub SaidNoInitial : List Record → ℕ → ℕ → Type 0
SaidNoInitial records me question = (p : Place) → IsPlace p → p.question ≡ question → p.origin ≡ me → said records Initial p ≡ None

-- the round and step of the last one that it said; none where it said none
abbrev pub IsProgress : List Record → ℕ → ℕ → Option (ℕ × ℕ) → Type 0
IsProgress records me question progress =
    MatchOption progress (SaidNoInitial records me question) (λ at. IsLastInitial records me question at)
