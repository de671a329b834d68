use Rattle.std.proofs.Common.{refl}
use Rattle.command_line.specs.Tasks.{rows_in}
use Rattle.command_line.specs.declared.words.Command.TheVariants as commands
use Rattle.command_line.proofs.Naming.{none_hold}
use Rattle.command_line.proofs.tasks.task_for.Goals as goal

pub returns-in_err-run_of-in-Run-clause-none : goal.returns-in_err-run_of-in-Run-clause-none
returns-in_err-run_of-in-Run-clause-none c = λ _. none_hold c.args.command commands.Run (rows_in c.args.options.now) c.in-Run.is (c.in_err-run_of-in-Run.ensures.none refl)

pub returns-in_err-status_of-in-Status-clause-none : goal.returns-in_err-status_of-in-Status-clause-none
returns-in_err-status_of-in-Status-clause-none c = λ _. none_hold c.args.command commands.Status (rows_in c.args.options.now) c.in-Status.is (c.in_err-status_of-in-Status.ensures.none refl)

pub returns-in_err-hear_of-in-Hear-clause-none : goal.returns-in_err-hear_of-in-Hear-clause-none
returns-in_err-hear_of-in-Hear-clause-none c = λ _. none_hold c.args.command commands.Hear (rows_in c.args.options.now) c.in-Hear.is (c.in_err-hear_of-in-Hear.ensures.none refl)
