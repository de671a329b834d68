use Rattle.std.proofs.Common.{◌≡◌, ◌==◌, drop}
use Rattle.std.specs.List.{find}
use Rattle.portal.specs.declared.book.Motion.{Motion}
use Rattle.portal.proofs.book.Book.motion.Given as goal

-- the proposal isn't among those that were passed
abbrev pub invariant-loop-motion : goal.invariant-loop-motion
invariant-loop-motion l =
    find (λ (motion : Motion). motion.number == l.number) (drop l.motion-index l.self.motions.items)
    ≡ find (λ (motion : Motion). motion.number == l.number) l.self.motions.items
