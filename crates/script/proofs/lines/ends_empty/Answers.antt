use Rattle.std.proofs.Common.{sym, ◌∙◌}
use Rattle.script.proofs.Parts.{last_is}
use Rattle.script.proofs.lines.ends_empty.Goals as goal

pub returns-in-Some : goal.returns-in-Some
returns-in-Some c = c.is_empty.ensures ∙ sym (last_is c.args.parts.now c.in-Some.last.now (sym c.in-Some.ensures.value))
