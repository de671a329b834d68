use Rattle.std.proofs.Common.{◌≡◌, ◌++◌, List, length, drop, subst, sym, rules}
use Rattle.node.specs.declared.order.Decision.{Decision}
use Rattle.node.specs.Words.{AreDecisionsOf}
use Rattle.node.proofs.Telling.{more_decisions}
use Rattle.node.proofs.showing.Published.show_decisions.Goals as goal

pub invariant_of-self-2 : goal.invariant_of-self-2
invariant_of-self-2 g c =
    let all : c.extend_from_slice.new.self.items ≡ c.self.inside.decisions.items ++ drop (length c.self.inside.decisions.items) c.decisions_of.result.now = search rules in (
      c.self.invariant.0,
      subst (λ (l : List Decision). AreDecisionsOf g.row.D.Denot g.J.Naming.header l) (sym all)
          (more_decisions g.J.Naming.header c.self.inside.decisions.items c.decisions_of.result.now c.self.invariant.1 c.decisions_of.ensures),
    )

pub invariant_of-self : goal.invariant_of-self
invariant_of-self g c =
    let same : c.extend_from_slice.new.self.items ≡ c.self.inside.decisions.items = search rules in
    (c.self.invariant.0, subst (λ (l : List Decision). AreDecisionsOf g.row.D.Denot g.J.Naming.header l) (sym same) c.self.invariant.1)
