use Rattle.std.proofs.Common.{rules}
use Rattle.commands.specs.TextLines.{SaysKey}
use Rattle.commands.proofs.Finding.{first_below, none_below}
use Rattle.commands.proofs.text_lines.first_below.Goals as goal

pub returns-in-Some : goal.returns-in-Some
returns-in-Some c =
    let first =
    first_below (SaysKey c.args.name.now) c.args.lines.now c.rest_of.result.now c.args.above c.in-Some.number c.rest_of.ensures c.in-Some.ensures.first in
    search (rules, first)

pub returns-in-None : goal.returns-in-None
returns-in-None c = none_below (SaysKey c.args.name.now) c.args.lines.now c.rest_of.result.now c.args.above c.rest_of.ensures c.in-None.ensures.first
