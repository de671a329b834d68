use Rattle.links.specs.Writing.{WritesGroups}
use Rattle.links.proofs.writer.Writer.write_on.Given as goal

abbrev pub invariant-loop : goal.invariant-loop
invariant-loop g l = WritesGroups l.fn.self.version (g.S.Stream.told l.initial.stream) (g.S.Stream.told l.stream) l.first l.number
