-- What is left to lay back makes the same file.
use Rattle.std.proofs.Common.{◌≡◌, length}
use Rattle.disk.specs.Under.{laid_back}
use Rattle.disk.proofs.content.lay_back.Given as goal

abbrev pub invariant-loop-place : goal.invariant-loop-place
invariant-loop-place l = laid_back l.under.items l.file ≡ laid_back l.initial.under.items l.initial.file

abbrev pub decreases-loop-place : goal.decreases-loop-place
decreases-loop-place l = length l.under.items
