-- None of the ranges so far has the place.
use Rattle.std.proofs.Common.{◌≡◌, drop}
use Rattle.disk.specs.Model.{is_touched}
use Rattle.disk.proofs.crash.is_touched.Given as goal

abbrev pub invariant-loop-at : goal.invariant-loop-at
invariant-loop-at l = is_touched l.place (drop l.at-index l.ranges) ≡ is_touched l.place l.ranges
