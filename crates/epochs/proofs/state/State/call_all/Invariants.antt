use Rattle.std.proofs.Common.{ℕ, ◌≡◌, ◌⊎◌, ◌≤◌, ◌<◌}
use Rattle.std.specs.List.{Contains}
use Rattle.epochs.specs.Opens.{IsKept}
use Rattle.epochs.proofs.state.State.call_all.Given as goal

-- those before this one are called
abbrev pub invariant-loop-epoch : goal.invariant-loop-epoch
invariant-loop-epoch l = record {
  called : (one : ℕ) → l.fn.first ≤ one → one < l.epoch → IsKept l.fn.self one → Contains l.self.undone.items one;
  only : (one : ℕ) → Contains l.self.undone.items one →
      Contains l.fn.self.undone.items one ⊎ ((l.fn.first ≤ one) × (one < l.fn.end) × IsKept l.fn.self one);
  undone : (one : ℕ) → Contains l.fn.self.undone.items one → Contains l.self.undone.items one;
  rest : l.self ≡ record l.fn.self { changes = l.self.changes; undone = l.self.undone };
}
