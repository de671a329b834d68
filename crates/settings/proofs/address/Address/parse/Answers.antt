use Rattle.std.proofs.Common.{◌≡◌, ℕ, List, Option, Some, None, refl, subst, sym}
use Rattle.settings.specs.Addresses.{IsHost, IsPort}
use Rattle.settings.proofs.Marks.{host_lacks_colon}
use Rattle.settings.proofs.address.Address.parse.Goals as goal

-- no colon
pub returns-in_err-host-clause-exact : goal.returns-in_err-host-clause-exact
returns-in_err-host-clause-exact c = λ address is.
    absurd (c.in_err-host.ensures.exact is.host is.port is.whole (host_lacks_colon is.host address.octets is.host_is))

-- no host before it
pub returns-in_err-octets-clause-exact : goal.returns-in_err-octets-clause-exact
returns-in_err-octets-clause-exact c = λ address is.
    let parts = c.in_ok-host.ensures.exact is.host is.port is.whole (host_lacks_colon is.host address.octets is.host_is) in
    let there : ◌≡◌ {A = Option (List ℕ)} None (Some address.octets) =
    c.in_err-octets.ensures.exact address.octets (subst (λ h. IsHost h address.octets) (sym parts.0) is.host_is) in
    absurd (cc)

-- no port behind it
pub returns-in_err-port-clause-exact : goal.returns-in_err-port-clause-exact
returns-in_err-port-clause-exact c = λ address is.
    let parts = c.in_ok-host.ensures.exact is.host is.port is.whole (host_lacks_colon is.host address.octets is.host_is) in
    let there : ◌≡◌ {A = Option ℕ} None (Some address.port) =
    c.in_err-port.ensures.exact address.port (subst (λ p. IsPort p address.port) (sym parts.1) is.port_is) in
    absurd (cc)

pub returns-clause-exact : goal.returns-clause-exact
returns-clause-exact c = λ address is.
    let parts = c.in_ok-host.ensures.exact is.host is.port is.whole (host_lacks_colon is.host address.octets is.host_is) in
    let octets_are : ◌≡◌ {A = Option (List ℕ)} (Some c.in_ok-octets.field-0) (Some address.octets) =
    c.in_ok-octets.ensures.exact address.octets (subst (λ h. IsHost h address.octets) (sym parts.0) is.host_is) in
    let port_is : ◌≡◌ {A = Option ℕ} (Some c.in_ok-port.field-0) (Some address.port) =
    c.in_ok-port.ensures.exact address.port (subst (λ p. IsPort p address.port) (sym parts.1) is.port_is) in
    let o : c.in_ok-octets.field-0 ≡ address.octets = cc in
    let p : c.in_ok-port.field-0 ≡ address.port = cc in
    rw (o, p) refl
