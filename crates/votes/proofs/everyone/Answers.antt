use Rattle.std.proofs.Common.{◌-◌, ◌^◌, ◌/◌, ap, ◌∙◌}
use Rattle.votes.proofs.Bits.{all_below}
use Rattle.votes.proofs.everyone.Goals as goal

pub returns : goal.returns
returns c =
    ap (λ k. 18446744073709551615 / 2 ^ (64 - k)) c.from.ensures
    ∙ ap (λ k. 18446744073709551615 / 2 ^ (64 - k)) c.n-n.ensures.value
    ∙ all_below c.args.size.n c.n-n.ensures.bounds.most
