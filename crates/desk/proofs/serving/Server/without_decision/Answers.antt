use Rattle.std.proofs.Common.{◌≡◌, ◌∙◌, ℕ, Option, None, inr, refl, sym, rules}
use Rattle.desk.proofs.Standing.{stopped_if_none}
use Rattle.desk.proofs.serving.Server.without_decision.Goals as goal

pub returns-then-is_none-clause-reply : goal.returns-then-is_none-clause-reply
returns-then-is_none-clause-reply g c =
    let none : ◌≡◌ {A = Option (ℕ × ℕ)} c.status_for.result None = search (rules, c.if-is_none.true, c.is_none.ensures) in
    let standing = c.status_for.ensures.standing in
    inr (refl, record { book = standing.book; book_is = standing.book_is; stopped = stopped_if_none standing.book (sym standing.status_is ∙ none) })
