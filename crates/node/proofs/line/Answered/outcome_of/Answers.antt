use Rattle.std.proofs.Common.{◌≡◌, ◌∙◌, sym, ap, subst, true, List, ℕ}
use Rattle.terms_prelude.specs.Terms.{Statement}
use Rattle.rounds.specs.declared.tosses.Toss.{Toss}
use Rattle.node.specs.Lines.{HasCome, are_of}
use Rattle.node.proofs.Shares.{are_heard}
use Rattle.node.proofs.line.Answered.outcome_of.Goals as goal

pub returns-then-are_of : goal.returns-then-are_of
returns-then-are_of g c =
    let same : are_of c.self.inside.events.items c.args.peer c.args.events.now ≡ true =
    ap (λ (l : List (ℕ × Statement × Toss)). are_of l c.args.peer c.args.events.now) (sym c.deref.ensures.value) ∙ sym c.are_of.ensures ∙ c.if-are_of.true in
    rw c.again.ensures (subst (λ (l : List (ℕ × Statement × ℕ)). HasCome g.row.D.Denot l c.self.inside.outcome) (are_heard c.self.inside.events.items c.args.peer c.args.events.now same) c.self.invariant)
