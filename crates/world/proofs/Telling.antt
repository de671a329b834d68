-- What more than t members told.
use Rattle.std.proofs.Common.{◌≡◌, ◌<◌, ◌≤◌, ℕ, Bool, true, arith}
use Rattle.terms_prelude.specs.Terms.{Size, IsSize, count_below}
use Rattle.terms.proofs.Count.{has_outside}
use Rattle.world.specs.Claims.{Agree, IsDecidedAsTold}
use Rattle.world.specs.World.{World, IsCorrect}

-- one of them is correct, and agrees with all others
pub decided_as_told : (size : Size) (liars : ℕ → Bool) (w : World) → count_below size.n liars ≤ size.t → Agree size liars w → IsDecidedAsTold size liars w
decided_as_told size liars w few agree told question v many saved a round u correct has =
    let one = has_outside size.n told liars (omega (arith, few, many)) in
    let is : IsCorrect size liars one.member = record { member = one.below; honest = one.not_in } in
    let its = saved one.member one.passes is in
    agree a one.member question round its.0 u v correct is has its.1
