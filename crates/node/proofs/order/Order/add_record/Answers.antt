use Rattle.std.proofs.Common.{sym, subst, ◌++◌, ◌∷◌, []}
use Rattle.terms_prelude.specs.Terms.{Record}
use Rattle.node.specs.Words.{IsOrdered}
use Rattle.node.proofs.Ordering.{ordered_said, ordered_decided}
use Rattle.node.proofs.order.Order.add_record.Goals as goal

pub returns-in-Decided : goal.returns-in-Decided
returns-in-Decided c = λ questions before h.
    subst (λ (r : Record). IsOrdered questions (before ++ r ∷ []) c.add.new.self) (sym c.in-Decided.is)
    (ordered_decided questions before c.in-Decided.question c.in-Decided.round c.in-Decided.bit c.args.self.now c.add.new.self
    c.add.ensures.most c.add.ensures.room c.add.ensures.full h)

pub returns-in_default : goal.returns-in_default
returns-in_default c = λ questions before h.
    subst (λ (r : Record). IsOrdered questions (before ++ r ∷ []) c.args.self.now) (sym c.in_default.is)
    (ordered_said questions before c.in_default.field-0 c.args.self.now h)
