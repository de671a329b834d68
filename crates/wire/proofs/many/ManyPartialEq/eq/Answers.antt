use Rattle.std.proofs.Common.{◌∙◌}
use Rattle.wire.specs.Same.{same_statements}
use Rattle.wire.proofs.Sameness.{lists_eq-is}
use Rattle.wire.proofs.many.ManyPartialEq.eq.Goals as goal

pub returns : goal.returns
returns c =
    c.eq.ensures
    ∙ (lists_eq-is c.as_slice.result.now c.as_slice-2.result.now
    ∙ (λ i. same_statements (c.as_slice.ensures.value i) (c.as_slice-2.ensures.value i)))
