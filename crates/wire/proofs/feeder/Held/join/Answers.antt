use Rattle.std.proofs.Common.{List, ℕ, ◌++◌, take, ap, ◌∙◌}
use Rattle.wire.specs.declared.feeder.TheConstants.{LONGEST_FRAME}
use Rattle.wire.proofs.Joining.{joined_all}
use Rattle.wire.proofs.feeder.Held.join.Goals as goal

pub returns-clause-same : goal.returns-clause-same
returns-clause-same c =
    joined_all c.self.inside.bytes c.copy_from_slice.new.self c.args.piece.now c.self.inside.len c.min-more.result c.self.invariant c.self.told c.copy_from_slice.ensures.after c.min-more.ensures
    ∙ ap (λ (t : List ℕ). take LONGEST_FRAME (t ++ c.args.piece.now)) c.self.view_is
