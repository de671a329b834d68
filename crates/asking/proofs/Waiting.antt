-- What is left of a time is some of it.
use Rattle.std.proofs.Common.{ℕ, ◌≡◌, ◌+◌, ◌≤◌, Option, Some, None, arith}
use Rattle.std.specs.Duration.{as_nanos}
use Rattle.std.specs.declared.time.Duration.{Duration}
use Rattle.asking.specs.Times.{IsLeft, IsWithin}

pub within : (total : Option Duration) (passed : Duration) (step : ℕ) (left : Duration) → IsLeft total passed step (Some left) → IsWithin total step left
within None passed step left is = is
within (Some whole) passed step left (some, sum) = (some, omega (arith, sum))
