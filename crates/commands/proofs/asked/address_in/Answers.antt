use Rattle.std.proofs.Common.{◌≡◌, ℕ, List, Option, Some, subst, ap, ◌∙◌}
use Rattle.toml.specs.Data.{as_str}
use Rattle.settings.specs.Addresses.{IsAddress}
use Rattle.commands.proofs.asked.address_in.Goals as goal

pub returns-clause-exact : goal.returns-clause-exact
returns-clause-exact c = λ address is.
    let there : ◌≡◌ {A = Option (List ℕ)} (Some c.in_ok-as_str.field-0.now) (Some is.0) = c.in_ok-as_str.ensures ∙ ap as_str is.1 in
    let same : is.0 ≡ c.in_ok-as_str.field-0.now = cc in
    c.parse.ensures.exact address (subst (λ t. IsAddress t address) same is.2)
