use Rattle.std.proofs.Common.{◌≡◌, ◌++◌, take, map}
use Rattle.sim.proofs.links.add_tossed.Given as goal

-- the statements so far were added
abbrev pub invariant-loop-statement : goal.invariant-loop-statement
invariant-loop-statement l = l.all.items ≡ l.fn.all.items ++ map (λ s. (l.from, s, l.toss)) (take l.statement-index l.statements)
