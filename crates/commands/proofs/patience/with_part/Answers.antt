use Rattle.std.proofs.Common.{ℕ, ◌≡◌, Option, None, Some}
use Rattle.commands.proofs.patience.with_part.Goals as goal

pub returns-in_err-part-clause-exact : goal.returns-in_err-part-clause-exact
returns-in_err-part-clause-exact c = λ time are.
    let there : ◌≡◌ {A = Option ℕ} None (Some are.1) = c.in_err-part.ensures.exact are.1 are.3 in
    cc
