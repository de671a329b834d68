use Rattle.std.proofs.Common.{rules}
use Rattle.links.proofs.Writing.{items_whole, items_fail}
use Rattle.links.proofs.writer.write_items.Goals as goal

pub returns-in-Ok-clause-ok : goal.returns-in-Ok-clause-ok
returns-in-Ok-clause-ok g c = items_whole c.args.version _ _ c.args.from c.args.items.now c.requires.some c.requires.few c.requires.numbered (search (rules, c.in-Ok.ensures.ok))

pub returns-in-Err-clause-err : goal.returns-in-Err-clause-err
returns-in-Err-clause-err g c = items_fail c.args.version _ _ c.args.from c.args.items.now c.in-Err.why c.requires.some c.requires.few c.requires.numbered c.in-Err.ensures.err
