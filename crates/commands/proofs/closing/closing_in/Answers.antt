use Rattle.std.proofs.Common.{◌≡◌, ℕ, Option, Some, None, ap, unwrap_or}
use Rattle.commands.specs.declared.closing.Closing.{Closing}
use Rattle.commands.proofs.Counting.{never}
use Rattle.commands.proofs.closing.closing_in.Goals as goal

pub returns-in-Some-clause-exact : goal.returns-in-Some-clause-exact
returns-in-Some-clause-exact c = λ epochs are.
    let found = c.in-Some.ensures.exact epochs.closed epochs.newest are in
    let closed = ap (λ (o : Option (ℕ × ℕ)). (unwrap_or o (0, 0)).0) found in
    let newest = ap (λ (o : Option (ℕ × ℕ)). (unwrap_or o (0, 0)).1) found in
    λ i. Some (record { closed = closed i; newest = newest i })

pub returns-in-None-clause-exact : goal.returns-in-None-clause-exact
returns-in-None-clause-exact c = λ epochs are.
    let bad : ◌≡◌ {A = Option (ℕ × ℕ)} None (Some (epochs.closed, epochs.newest)) = c.in-None.ensures.exact epochs.closed epochs.newest are in
    absurd (cc)
