use Rattle.std.proofs.Common.{◌≡◌, ℕ, Option, Some, None, sym}
use Rattle.commands.proofs.Counting.{cut_first, no_first}
use Rattle.commands.proofs.replies.count_before.Goals as goal

-- no space
pub returns-in_err-first-clause-exact : goal.returns-in_err-first-clause-exact
returns-in_err-first-clause-exact c = λ n rest has. absurd (no_first c.args.words.now n rest c.in_err-first.ensures has)

-- no number before it
pub returns-in_err-count-clause-exact : goal.returns-in_err-count-clause-exact
returns-in_err-count-clause-exact c = λ n rest has.
    let cut = cut_first c.args.words.now _ _ n rest c.in_ok-first.ensures.0 c.in_ok-first.ensures.1 has in
    let there : ◌≡◌ {A = Option ℕ} None (Some n) = c.in_err-count.ensures.exact n cut.0 in
    absurd (cc)

pub returns-clause-exact : goal.returns-clause-exact
returns-clause-exact c = λ n rest has.
    let cut = cut_first c.args.words.now _ _ n rest c.in_ok-first.ensures.0 c.in_ok-first.ensures.1 has in
    let there : ◌≡◌ {A = Option ℕ} (Some c.in_ok-count.field-0) (Some n) = c.in_ok-count.ensures.exact n cut.0 in
    (cc, cut.1)
