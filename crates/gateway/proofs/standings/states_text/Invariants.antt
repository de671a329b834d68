use Rattle.std.proofs.Common.{◌≡◌, map, take}
use Rattle.gateway.specs.Standings.{letter}
use Rattle.gateway.proofs.standings.states_text.Given as goal

-- the states so far have their letters
abbrev pub invariant-loop-standing : goal.invariant-loop-standing
invariant-loop-standing l = l.bytes.items ≡ map letter (take l.standing-index l.standings)
