use Rattle.std.proofs.Common.{rules}
use Rattle.portal.proofs.Comings.{all_gone}
use Rattle.portal.proofs.book.Book.drop_older.Goals as goal

pub returns-in-Err-clause-kept : goal.returns-in-Err-clause-kept
returns-in-Err-clause-kept c =
    all_gone c.args.self.now.before c.drop_events.new.self.before c.args.self.now.events.items c.split_off.new.self.items c.drop_events.new.self.events.items
    c.drop_events.ensures.none (search (rules, c.split_off.ensures.err)) c.drop_events.ensures.last
