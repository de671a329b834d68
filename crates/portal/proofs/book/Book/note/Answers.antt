use Rattle.std.proofs.Common.{[], ◌∷◌}
use Rattle.portal.proofs.Comings.{then_come}
use Rattle.portal.proofs.book.Book.note.Goals as goal

pub returns-clause-told : goal.returns-clause-told
returns-clause-told c =
    then_come [] (c.args.event ∷ []) c.args.self.now.before c.make_room.new.self.before c.push_event.new.self.before c.args.self.now.events.items
    c.make_room.new.self.events.items c.push_event.new.self.events.items c.make_room.ensures.kept c.push_event.ensures.told
