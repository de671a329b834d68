use Rattle.std.proofs.Common.{[], ◌∷◌}
use Rattle.numerals.proofs.hexes.byte.Goals as goal

-- no bytes at all
pub returns-clause-exact : goal.returns-clause-exact
returns-clause-exact c = λ byte is. absurd (rw c.in-None.is at (c.in_ok-bytes.ensures.exact (byte ∷ []) is))
