use Rattle.portal.specs.Tellings.{TellsContradictions}
use Rattle.portal.proofs.book.Book.note_contradictions.Given as goal

-- followers are told of nothing else
abbrev pub invariant-loop-member : goal.invariant-loop-member
invariant-loop-member l = TellsContradictions l.question l.fn.self l.self
