use Rattle.std.proofs.Common.{◌∙◌, sym}
use Rattle.command_line.specs.Tasks.{command_of, rows_in, words_of}
use Rattle.command_line.proofs.Naming.{none_hold, one_of_name}
use Rattle.command_line.proofs.tasks.named_task.Goals as goal

pub returns-clause-none : goal.returns-clause-none
returns-clause-none c = λ none task named.
    let same = one_of_name (command_of task) c.in_ok-command_named.field-0 (sym named.0 ∙ c.in_ok-command_named.ensures.some) in
    none_hold (command_of task) c.in_ok-command_named.field-0 (rows_in c.args.options.now) same (c.task_for.ensures.none none) (words_of task) named.1
