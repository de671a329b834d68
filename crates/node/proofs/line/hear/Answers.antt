use Rattle.std.proofs.Common.{◌∙◌, subst, inl, List, ℕ, Ok, Err}
use Rattle.terms_prelude.specs.Terms.{Statement}
use Rattle.rounds.specs.declared.tosses.Toss.{Toss}
use Rattle.member.specs.Groups.{hearings}
use Rattle.node.specs.Lines.{HasCome}
use Rattle.node.proofs.Counting.{heard_group}
use Rattle.node.proofs.Shares.{whole_is_part}
use Rattle.node.specs.Groups.{AppliesAll, RefusesAll}
use Rattle.node.proofs.line.hear.Goals.{in-Ok, in-Err}
use Rattle.node.proofs.line.hear.Goals as goal

pub invariant_of-t-8 : goal.invariant_of-t-8
invariant_of-t-8 g c =
    subst (λ (l : List (ℕ × Statement × Toss)). HasCome g.row.D.Denot (hearings l) (Ok c.witness.result)) c.group.view_is
    (λ some. heard_group (hearings c.group.inside.events.items) _ c.witness.result (c.witness.ensures ∙ c.in-Ok.ensures.answer.log) some)

pub invariant_of-result : goal.invariant_of-result
invariant_of-result g c =
    subst (λ (l : List (ℕ × Statement × Toss)). HasCome g.row.D.Denot (hearings l) (Err c.in-Err.fault)) c.group.view_is
    (inl (record { group = hearings c.group.inside.events.items; part = whole_is_part (hearings c.group.inside.events.items); old = _; new = _; refuses = c.in-Err.ensures.fault }))

pub returns : goal.returns
returns g c =
    elim c.match-hear_all.branch [
      | in-Ok w ↦ (Ok w.witness.result, (w.in-Ok.field-0.items, subst (λ (l : List (ℕ × Statement × Toss)). AppliesAll c.args.book.now (hearings l) w.in-Ok.field-0.items c.hear_all.new.self) c.group.view_is w.in-Ok.ensures.answer))
      | in-Err w ↦ (Err w.in-Err.fault, subst (λ (l : List (ℕ × Statement × Toss)). RefusesAll c.args.book.now (hearings l) w.in-Err.fault c.hear_all.new.self) c.group.view_is w.in-Err.ensures.fault)
    ]
