use Rattle.std.proofs.Common.{subst}
use Rattle.std.proofs.lemmas.Result.{IfOk-weaker}
use Rattle.command_line.specs.Usage.{Builds, with_telling}
use Rattle.command_line.proofs.Building.{with_command}
use Rattle.command_line.proofs.tasks.with_command.Goals as goal

pub returns : goal.returns
returns c app below program command plain =
    let before = subst (λ z. Builds app z) c.in_ok-program.was program in
    let telling = c.in_ok-with_telling.ensures below command in
    IfOk-weaker c.subcommand.result _ _ (λ new added. with_command c.in_ok-program.field-0 c.in_ok-with_telling.field-0 new app (with_telling below) added before telling plain) c.subcommand.ensures
