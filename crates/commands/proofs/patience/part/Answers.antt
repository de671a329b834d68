use Rattle.std.proofs.Common.{ℕ, ◌≡◌, List, Option, Some, length, subst, sym}
use Rattle.numerals.specs.Numbers.{IsBelow}
use Rattle.commands.specs.Patience.{IsScaled}
use Rattle.commands.proofs.patience.part.Goals as goal

pub returns-clause-exact : goal.returns-clause-exact
returns-clause-exact c = λ part is.
    let below : IsBelow 16 c.as_bytes.result.now is.0 = subst (λ (digits : List ℕ). IsBelow 16 digits is.0) (sym c.as_bytes.ensures.value) is.1 in
    let there : ◌≡◌ {A = Option ℕ} (Some c.in_ok-number.number) (Some is.0) = c.in_ok-number.ensures.exact is.0 below in
    let same : is.0 ≡ c.in_ok-number.number = cc in
    c.scaled.ensures.exact part (subst (λ (number : ℕ). IsScaled (length c.args.digits.now) number part) same is.2)
