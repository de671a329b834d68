use Rattle.std.proofs.Common.{subst}
use Rattle.std.proofs.lemmas.Result.{IfOk-weaker}
use Rattle.command_line.specs.Usage.{Builds}
use Rattle.command_line.proofs.Building.{with_arg}
use Rattle.command_line.proofs.tasks.with_arg.Goals as goal

pub returns : goal.returns
returns c app rule made is simple =
    let built = subst (λ z. Builds app z) c.in_ok-command.was made in
    IfOk-weaker c.arg.result _ _ (λ new added. with_arg c.in_ok-command.field-0 c.args.arg new app rule added built is simple) c.arg.ensures
