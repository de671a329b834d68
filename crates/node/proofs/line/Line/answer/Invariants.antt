use Rattle.std.specs.List.{All}
use Rattle.member.specs.Groups.{hearings}
use Rattle.node.specs.Lines.{HasCome}
use Rattle.node.specs.declared.line.Part.{Part}
use Rattle.node.proofs.line.Line.answer.Given as goal

abbrev pub invariant-loop-part : goal.invariant-loop-part
invariant-loop-part g l = record {
  can_next : (goal.iterator-loop-part g).can_next l.part-iterator;
  is_finite : (goal.iterator-loop-part g).is_finite l.part-iterator;
  came : All (λ (part : Part). HasCome g.row.D.Denot (hearings part.events.items) l.outcome) l.part-iterator.rest.items;
}
