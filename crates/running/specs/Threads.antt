-- How many threads a member has that takes part.
use Rattle.std.specs.Prelude.{ℕ, ◌+◌, ◌-◌, Bool, true, false}
use Rattle.terms_prelude.specs.Terms.{Size}

-- one where it is wanted
abbrev pub one_if : Bool → ℕ
one_if true = 1
one_if false = 0

-- A dialler for each member and a reader for each of n - t links; the clock, one at each of two doors, one for a client, and one
-- for all followers; one that tells the log, and one at the door for clients of this machine, where there are such.
abbrev pub least_threads : Size → Bool → Bool → ℕ
least_threads size has_log has_local = size.n + (size.n - size.t) + 5 + one_if has_log + one_if has_local
