use Rattle.std.proofs.Common.{rules, arith}
use Rattle.running.proofs.Hellos.{spelled}
use Rattle.running.proofs.callers.Claim.read.Goals as goal

pub returns-clause-some : goal.returns-clause-some
returns-clause-some c =
    spelled c.args.bytes.now c.number.result c.short.result (omega (arith, c.in-0.len_at_least, c.in-0.len_below)) (search rules) (search rules) (search rules)
    c.number.ensures c.short.ensures
