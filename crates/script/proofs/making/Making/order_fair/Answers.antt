use Rattle.std.proofs.Common.{sym, ap, ◌∙◌}
use Rattle.script.specs.Words.{Cast, fairs}
use Rattle.script.proofs.making.Making.order_fair.Goals as goal

pub returns-clause-ok : goal.returns-clause-ok
returns-clause-ok c size correct is =
    ap (λ (cast : Cast). fairs cast c.in_ok-rest.rest c.add_fairs.new.fair c.add_fairs.new.self) (sym is) ∙ c.in_ok-rest.ensures.ok
