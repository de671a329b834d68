use Rattle.std.proofs.Common.{◌∙◌, ap, ℕ, [], List, Option, unwrap_or}
use Rattle.asking.proofs.asking.question_named.Goals as goal

pub returns-in-Some-clause-exact : goal.returns-in-Some-clause-exact
returns-in-Some-clause-exact c = λ question bit count small few is.
    c.question_in.ensures.exact question bit count small few (ap (λ (head : Option (List ℕ)). unwrap_or head []) (c.in-Some.ensures ∙ is))
