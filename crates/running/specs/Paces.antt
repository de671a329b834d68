-- How many lines of links a log takes.
use Rattle.std.specs.Prelude.{ℕ, ◌+◌, ◌-◌, Bool, nat_le, nat_lt, if◌then◌else◌}
use Rattle.running.specs.declared.pace.Pace.{Pace}

-- in the minute of that second: another one begins sixty seconds after the last began
abbrev pub pace_at : Pace → ℕ → Pace
pace_at pace now = if nat_le 60 (now - pace.began) then record { began = now; told = 0 } else pace

-- 20 lines are told in a minute
abbrev pub admits : Pace → ℕ → Bool
admits pace now = nat_lt (pace_at pace now).told 20

abbrev pub after_line : Pace → ℕ → Pace
after_line pace now =
    if admits pace now then record { began = (pace_at pace now).began; told = (pace_at pace now).told + 1 } else pace_at pace now
