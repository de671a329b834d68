use Rattle.std.proofs.Common.{ℕ, ◌≤◌, [], ◌∷◌, ◌++◌, refl, rules, subst, sym}
use Rattle.portal.proofs.Comings.{heard_is}
use Rattle.portal.proofs.book.Book.take.Goals as goal

pub returns-clause-news : goal.returns-clause-news
returns-clause-news c = λ heard watches news.
    heard_is heard c.args.told c.args.time c.decision-before.result c.decision-decision.result c.args.self.now c.tell.new.self c.take.new.self
    (c.decision-before.ensures.decides heard watches news.window.0)
    (c.decision-decision.ensures.decides (heard ++ c.args.told ∷ []) (c.if-not-take.ensures.words refl heard watches)
    (subst (λ (first : ℕ). first ≤ c.args.told.question) (sym c.if-not-take.ensures.first) news.window.0))
    c.if-not-take.ensures.size (c.if-not-take.ensures.words refl heard watches) c.tell.ensures.same c.tell.ensures.told

pub returns-then-is_some-clause-news : goal.returns-then-is_some-clause-news
returns-then-is_some-clause-news c = search rules
