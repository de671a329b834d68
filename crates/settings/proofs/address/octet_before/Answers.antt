use Rattle.std.proofs.Common.{◌≡◌, ℕ, Option, Some, None, subst, sym}
use Rattle.settings.specs.Addresses.{IsOctet}
use Rattle.settings.proofs.Marks.{octet_lacks_point}
use Rattle.settings.proofs.address.octet_before.Goals as goal

-- no point
pub returns-in_err-digits-clause-exact : goal.returns-in_err-digits-clause-exact
returns-in_err-digits-clause-exact c = λ octet digits rest whole is.
    absurd (c.in_err-digits.ensures.exact digits rest whole (octet_lacks_point digits octet is))

-- no octet before it
pub returns-in_err-octet-clause-exact : goal.returns-in_err-octet-clause-exact
returns-in_err-octet-clause-exact c = λ octet digits rest whole is.
    let parts = c.in_ok-digits.ensures.exact digits rest whole (octet_lacks_point digits octet is) in
    let there : ◌≡◌ {A = Option ℕ} None (Some octet) = c.in_err-octet.ensures.exact octet (subst (λ ds. IsOctet ds octet) (sym parts.0) is) in
    absurd (cc)

pub returns-clause-exact : goal.returns-clause-exact
returns-clause-exact c = λ octet digits rest whole is.
    let parts = c.in_ok-digits.ensures.exact digits rest whole (octet_lacks_point digits octet is) in
    let there : ◌≡◌ {A = Option ℕ} (Some c.in_ok-octet.field-0) (Some octet) = c.in_ok-octet.ensures.exact octet (subst (λ ds. IsOctet ds octet) (sym parts.0) is) in
    (cc, parts.1)
