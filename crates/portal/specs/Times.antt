-- The time that a client has.
use Rattle.std.specs.Prelude.{ℕ, Bool, if◌then◌else◌}
use Rattle.portal.specs.declared.serving.TheConstants.{TO_COME, TO_TAKE}

-- the milliseconds in which answers have to be taken, or a request has to come
abbrev pub time_for : Bool → ℕ
time_for writes = if writes then TO_TAKE else TO_COME
