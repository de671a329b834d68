use Rattle.std.proofs.Common.{flat_map}
use Rattle.std.specs.Fmt.{HasWritten, IsPlainFormatter}
use Rattle.commands.specs.Quoting.{char_text}
use Rattle.commands.proofs.quoting.EscapedDisplay.fmt.Given as goal

abbrev pub invariant-loop-character : goal.invariant-loop-character
invariant-loop-character g l =
    IsPlainFormatter l.initial.f → HasWritten g.W.Write.write_str_gives l.initial.f (flat_map char_text l.yielded) l.f
