use Rattle.std.proofs.Common.{sym, subst, ◌↔◌, ◌≡◌, IsTrue, Option, List, true, false}
use Rattle.clap.specs.Walk.{Row, Text}
use Rattle.command_line.specs.Tasks.{SaysQuiet, rows_in}
use Rattle.command_line.proofs.Naming.{met_in, nothing_said}
use Rattle.command_line.proofs.tasks.is_quiet_below.Goals as goal

pub returns-in-Some : goal.returns-in-Some
returns-in-Some c =
    let met = met_in c.args.matches.now c.in-Some.field-0-0.now (rows_in c.in-Some.options.now) c.in-Some.ensures.name c.in-Some.ensures.rows in
    subst (λ (met : Option (Text × List Row)). IsTrue c.flag_of.result ↔ SaysQuiet met) (sym met) c.flag_of.ensures

pub returns-in-None : goal.returns-in-None
returns-in-None c = ((λ never. let bad : false ≡ true = never in cc), (λ says. absurd (nothing_said c.args.matches.now c.in-None.ensures.name says)))
