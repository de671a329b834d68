use Rattle.std.proofs.Common.{◌∙◌, sym, ap}
use Rattle.sim.specs.Links.{is_broken_at}
use Rattle.sim.proofs.links.Link.take.Goals as goal

pub invariant_of-self : goal.invariant_of-self
invariant_of-self c = c.self.invariant ∙ sym (ap (λ f. is_broken_at f.end) c.in_err-self-inside.ensures.err)
