use Rattle.std.proofs.Common.{List, ℕ, subst, sym}
use Rattle.std.specs.List.{All}
use Rattle.terms_prelude.specs.Terms.{Statement}
use Rattle.rounds.specs.declared.tosses.Toss.{Toss}
use Rattle.member.specs.Groups.{hearings}
use Rattle.node.specs.Lines.{HasCome}
use Rattle.node.specs.declared.line.Part.{Part}
use Rattle.node.proofs.Shares.{first_of_all, others_of_all, came_of_all}
use Rattle.node.proofs.line.Line.answer.Goals as goal

pub invariant_of-t-29 : goal.invariant_of-t-29
invariant_of-t-29 g c =
    subst (λ o. HasCome g.row.D.Denot (hearings c.in-Some.part.events.items) o) (sym c.again.ensures)
    (first_of_all (λ (part : Part). HasCome g.row.D.Denot (hearings part.events.items) c.heard.inside.outcome) c.in-Some.part _ _ c.in-Some.ensures.steps.0 c.loop-part.invariant.came)

pub loop-part-init : goal.loop-part-init
loop-part-init g c = record {
  can_next = tt;
  is_finite = tt;
  came = subst (λ (l : List Part). All (λ (part : Part). HasCome g.row.D.Denot (hearings part.events.items) c.heard.inside.outcome) l) (sym c.into_iter-part-iterator.ensures.into_iter_gives.0)
      (came_of_all g.row.D.Denot c.group.inside.parts.items c.group.inside.events.items c.heard.inside.outcome c.group.invariant.1
      (subst (λ (l : List (ℕ × Statement × Toss)). HasCome g.row.D.Denot (hearings l) c.heard.inside.outcome) (sym c.group.view_is) c.heard.invariant));
}

pub loop-part-preserved-in-Some-get_mut : goal.loop-part-preserved-in-Some-get_mut
loop-part-preserved-in-Some-get_mut g c = record {
  can_next = tt;
  is_finite = tt;
  came = others_of_all (λ (part : Part). HasCome g.row.D.Denot (hearings part.events.items) c.heard.inside.outcome) c.in-Some.part _ _ c.in-Some.ensures.steps.0 c.loop-part.invariant.came;
}

pub loop-part-preserved-in-Some-get_mut-2 : goal.loop-part-preserved-in-Some-get_mut-2
loop-part-preserved-in-Some-get_mut-2 g c = record {
  can_next = tt;
  is_finite = tt;
  came = others_of_all (λ (part : Part). HasCome g.row.D.Denot (hearings part.events.items) c.heard.inside.outcome) c.in-Some.part _ _ c.in-Some.ensures.steps.0 c.loop-part.invariant.came;
}

pub loop-part-preserved-in-Some-get_mut-3 : goal.loop-part-preserved-in-Some-get_mut-3
loop-part-preserved-in-Some-get_mut-3 g c = record {
  can_next = tt;
  is_finite = tt;
  came = others_of_all (λ (part : Part). HasCome g.row.D.Denot (hearings part.events.items) c.heard.inside.outcome) c.in-Some.part _ _ c.in-Some.ensures.steps.0 c.loop-part.invariant.came;
}

pub loop-part-preserved-in-Some-get_mut-4 : goal.loop-part-preserved-in-Some-get_mut-4
loop-part-preserved-in-Some-get_mut-4 g c = record {
  can_next = tt;
  is_finite = tt;
  came = others_of_all (λ (part : Part). HasCome g.row.D.Denot (hearings part.events.items) c.heard.inside.outcome) c.in-Some.part _ _ c.in-Some.ensures.steps.0 c.loop-part.invariant.came;
}

pub loop-part-preserved : goal.loop-part-preserved
loop-part-preserved g c = record {
  can_next = tt;
  is_finite = tt;
  came = others_of_all (λ (part : Part). HasCome g.row.D.Denot (hearings part.events.items) c.heard.inside.outcome) c.in-Some.part _ _ c.in-Some.ensures.steps.0 c.loop-part.invariant.came;
}
