-- How long a member rests between two transcripts.
use Rattle.std.specs.Prelude.{ℕ, ◌≡◌, ◌+◌, ◌-◌, ◌*◌, Option, Some, None, IfSome}
use Rattle.std.specs.Time.{FitsClock, instant_nanos}
use Rattle.std.specs.declared.time.Instant.{Instant}
use Rattle.desk.specs.declared.turns.Rest.{Rest}

-- how many nanoseconds are left of a rest at that time
abbrev pub left_until : Option Instant → ℕ → ℕ
left_until None now = 0
left_until (Some until) now = instant_nanos until - now

-- the end of the rest behind a transcript that was made between these times: fifteen times as long as that took
abbrev pub rest_end : ℕ → ℕ → ℕ
rest_end began ended = ended + 15 * (ended - began)

-- that is the rest behind such a transcript, and there is none where the clock wasn't read, or can't show its end
pub record IsRestBehind (began ended : Instant) (rest : Rest) : Type 0 where
  pub until : IfSome rest.until (λ until. instant_nanos until ≡ rest_end (instant_nanos began) (instant_nanos ended))
  pub none : rest.until ≡ None → FitsClock (rest_end (instant_nanos began) (instant_nanos ended)) → ⊥
