use Rattle.gateway.proofs.Cuts.{after_last, after_query}
use Rattle.gateway.proofs.queries.after_of.Goals as goal

pub returns-then-is_empty-clause-none : goal.returns-then-is_empty-clause-none
returns-then-is_empty-clause-none c = λ none at is.
    c.after_query.ensures.none none at (after_query c.args.query.now c.args.last.now at c.if-is_empty.ensures is)

pub returns-clause-none : goal.returns-clause-none
returns-clause-none c = λ none at is.
    c.position_of.ensures.none none at (after_last c.args.query.now c.args.last.now at c.if-is_empty.ensures is)
