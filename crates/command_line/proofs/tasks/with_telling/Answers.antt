use Rattle.std.proofs.Common.{refl}
use Rattle.command_line.specs.Usage.{quiet_rule, verbose_rule}
use Rattle.clap.specs.Simple.{with_rule}
use Rattle.command_line.proofs.tasks.with_telling.Goals as goal

pub returns : goal.returns
returns c app command =
    let quiet = c.with_arg-command.ensures app quiet_rule command c.quiet.ensures refl in
    c.with_arg.ensures (with_rule app quiet_rule) verbose_rule quiet c.verbose.ensures refl
