use Rattle.std.proofs.Common.{◌≡◌, ◌++◌, map}
use Rattle.script.specs.Words.{tossed_act}
use Rattle.script.proofs.source.Source.into_script.Given as goal

-- the events so far, and those that the source has left
abbrev pub invariant-batches : goal.invariant-batches
invariant-batches l = record {
  events : map tossed_act l.events.items ++ l.source.left ≡ l.fn.self.left;
  cluster : (l.source.size ≡ l.fn.self.size) × (l.source.liars ≡ l.fn.self.liars);
}

abbrev pub decreases-batches : goal.decreases-batches
decreases-batches l = l.source.turns
