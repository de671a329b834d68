use Rattle.std.proofs.Common.{ap}
use Rattle.portal.proofs.Comings.{decided}
use Rattle.portal.specs.declared.book.Book.{Book}
use Rattle.portal.proofs.book.Book.decide.Goals as goal

pub returns-clause-told : goal.returns-clause-told
returns-clause-told c =
    decided c.args.question c.args.bit c.args.time c.time_of-ms.result c.args.self.now c.count_decision.new.self c.note.new.self c.note_contradictions.new.self
    (ap (λ (book : Book). book.before) c.count_decision.ensures.rest) (ap (λ (book : Book). book.events.items) c.count_decision.ensures.rest)
    c.time_of-ms.ensures c.note.ensures.told c.note_contradictions.ensures.told
