-- The steps of a question.
use Rattle.std.specs.Prelude.{ℕ, ◌+◌, ◌/◌, ◌%◌}

-- the round, from 1, of the step of that number, from 0
abbrev pub round_of : ℕ → ℕ
round_of step = step / 3 + 1

-- its step of that round, 1 to 3
abbrev pub step_of : ℕ → ℕ
step_of step = step % 3 + 1
