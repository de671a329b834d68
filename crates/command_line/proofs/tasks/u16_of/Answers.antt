use Rattle.std.specs.Str.Parse.{ParsesUnsigned, ExplainsUnsignedError, HasUnsignedDigitsIfOk}
use Rattle.clap.specs.Matches.{found_of}
use Rattle.command_line.proofs.Reading.{number_read}
use Rattle.command_line.proofs.tasks.u16_of.Goals as goal

pub returns : goal.returns
returns c =
    number_read _ (λ bs r. ParsesUnsigned 16 10 bs r × ExplainsUnsignedError 10 bs r × HasUnsignedDigitsIfOk bs r) 16 (found_of c.args.options.now) c.args.id.now c.get_one.result
    c.get_one.ensures.none c.get_one.ensures.value (λ u x given. given.0)
