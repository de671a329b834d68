use Rattle.std.specs.Io.KnownBytes.{Consumes}
use Rattle.numerals.specs.Lines.{NoEnd}
use Rattle.commands.proofs.client.reply_of.Given as goal

-- so far these bytes were read, and none ends a line
abbrev pub invariant-loop : goal.invariant-loop
invariant-loop g l = record {
  none : NoEnd l.reply.items;
  read : Consumes (g.R.Read.remaining l.fn.connection) (g.R.Read.remaining l.connection) l.reply.items;
}
