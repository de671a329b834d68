use Rattle.asking.specs.Hearsay.{HasMore}
use Rattle.asking.proofs.hearsay.Audit.gather.Given as goal

-- the reading has the words that it had, and more
abbrev pub invariant-hearing : goal.invariant-hearing
invariant-hearing g l = HasMore l.initial.self.reading l.self.reading
