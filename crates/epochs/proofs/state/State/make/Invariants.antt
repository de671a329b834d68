use Rattle.std.proofs.Common.{ℕ, ◌≡◌, ◌⊎◌, ◌≤◌, drop, length, max, take}
use Rattle.std.specs.List.{All, Contains}
use Rattle.chain.specs.Slots.{chain_size}
use Rattle.epochs.specs.Asking.{tells_next}
use Rattle.epochs.specs.Opens.{IsMadeFor, IsMissed}
use Rattle.epochs.specs.Verdicts.{IsUntouched}
use Rattle.epochs.proofs.state.State.make.Given as goal

-- the journals up to here are made, and those before the epoch are called
abbrev pub invariant-loop-made : goal.invariant-loop-made
invariant-loop-made l = record {
  count : length l.self.verdicts.items ≡ l.made;
  most : l.made ≤ max (length l.fn.self.verdicts.items) (tells_next l.epoch);
  left_out : (one : ℕ) → IsMadeFor l.fn.self l.self l.epoch one → Contains l.self.undone.items one;
  undone : (one : ℕ) → Contains l.fn.self.undone.items one → Contains l.self.undone.items one;
  only : (one : ℕ) → Contains l.self.undone.items one → Contains l.fn.self.undone.items one ⊎ IsMissed l.fn.self l.epoch one;
  least : length l.fn.self.verdicts.items ≤ l.made;
  known : take (length l.fn.self.verdicts.items) l.self.verdicts.items ≡ l.fn.self.verdicts.items;
  fresh : All (IsUntouched (chain_size l.chain).questions) (drop (length l.fn.self.verdicts.items) l.self.verdicts.items);
  rest : l.self ≡ record l.fn.self { changes = l.self.changes; verdicts = l.self.verdicts; undone = l.self.undone };
}
