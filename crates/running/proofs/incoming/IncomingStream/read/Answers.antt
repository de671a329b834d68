use Rattle.std.proofs.Common.{ap, ◌∙◌, ℕ, List, take}
use Rattle.links.specs.Net.{told_net}
use Rattle.running.proofs.Beginnings.{taken_more}
use Rattle.running.proofs.incoming.IncomingStream.read.Goals as goal

pub invariant_of-self : goal.invariant_of-self
invariant_of-self c = record {
  first = c.extend.ensures (told_net c.args.self.now.stream).taken c.args.self.now.first
      ∙ ap (λ (bytes : List ℕ). take 18 bytes)
      (taken_more (told_net c.args.self.now.stream) (told_net c.read.new.self) c.read.new.buf c.in-Ok.count c.in-Ok.ensures.got c.in-Ok.ensures.end);
}
