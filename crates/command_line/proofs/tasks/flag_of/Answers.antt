use Rattle.std.proofs.Common.{rules}
use Rattle.std.specs.Str.Parse.{ParsesBool}
use Rattle.clap.specs.Matches.{found_of}
use Rattle.command_line.proofs.Reading.{flag_read}
use Rattle.command_line.proofs.tasks.flag_of.Goals as goal

pub returns : goal.returns
returns c =
    search (
      rules,
      flag_read _ (λ bs r. ParsesBool bs r) (found_of c.args.options.now) c.args.id.now c.get_one.result
          c.get_one.ensures.none c.get_one.ensures.value (λ u x given. given),
    )
