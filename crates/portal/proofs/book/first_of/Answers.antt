use Rattle.std.proofs.Common.{◌≤◌, arith, length, rules, sym, take_all}
use Rattle.portal.proofs.book.first_of.Goals as goal

pub returns-then-events-lt64 : goal.returns-then-events-lt64
returns-then-events-lt64 c = sym (take_all 64 c.args.events.now (grind (arith, rules)))
