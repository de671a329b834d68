use Rattle.std.proofs.Common.{◌≡◌, ◌≤◌, ◌+◌, [], length}
use Rattle.std.specs.List.{AllByRecursion}
use Rattle.terms_prelude.specs.Terms.{IsSize, IsWellFormed}
use Rattle.wire.specs.Reading.{Rest}
use Rattle.sim.proofs.Groups.{CarriedSoFar}
use Rattle.sim.proofs.links.Link.carry_all.Given as goal

abbrev pub invariant-loop-rest : goal.invariant-loop-rest
invariant-loop-rest l = record {
  few : length l.all.items + length l.rest ≤ length l.statements;
  place : l.self.place ≡ l.initial.self.place;
  size : l.self.size ≡ l.initial.self.size;
  carried : IsSize l.initial.self.size → AllByRecursion (IsWellFormed l.initial.self.size) l.statements → l.initial.self.end ≡ Rest []
      → CarriedSoFar l.initial.self.size l.from l.toss l.statements l.rest l.all.items l.self.end;
}

abbrev pub decreases-loop-rest : goal.decreases-loop-rest
decreases-loop-rest l = length l.rest
