use Rattle.command_line.specs.Tasks.{rows_in}
use Rattle.clap.specs.Simple.{subcommand_rows_of}
use Rattle.command_line.proofs.Naming.{asked, met_in, none_met, not_asked}
use Rattle.command_line.proofs.tasks.task_of.Goals as goal

pub returns-clause-some : goal.returns-clause-some
returns-clause-some c =
    let met = met_in c.args.matches.now c.in_ok-name.name.now (rows_in c.in_ok-name.options.now) c.in_ok-name.ensures.name c.in_ok-name.ensures.rows in
    asked (subcommand_rows_of c.args.matches.now) _ _ met c.named_task.result c.named_task.ensures.some

pub returns-clause-none : goal.returns-clause-none
returns-clause-none c = λ none.
    let met = met_in c.args.matches.now c.in_ok-name.name.now (rows_in c.in_ok-name.options.now) c.in_ok-name.ensures.name c.in_ok-name.ensures.rows in
    not_asked (subcommand_rows_of c.args.matches.now) _ _ met (c.named_task.ensures.none none)

pub returns-in_err-name-clause-none : goal.returns-in_err-name-clause-none
returns-in_err-name-clause-none c = λ _. none_met c.args.matches.now c.in_err-name.ensures.name
