use Rattle.std.proofs.Common.{sym, ap, subst, ◌≡◌, ◌++◌, ◌∷◌, [], rules}
use Rattle.node.specs.Words.{IsOrdered, OrderView}
use Rattle.node.proofs.tally.Tally.add.Goals as goal

pub returns : goal.returns
returns c = λ questions before h.
    let was : c.self.inside.order ≡ c.args.self.now.order = ap (λ v. v.order) c.self.view_is in
    record {
      counted = c.count.ensures.counted questions before (search (rules, h.counted, c.self.view_is));
      ordered = subst (λ (o : OrderView). IsOrdered questions (before ++ c.args.one.now ∷ []) o) (sym c.count.ensures.order)
          (c.add_record.ensures questions before (subst (λ (o : OrderView). IsOrdered questions before o) (sym was) h.ordered));
    }
