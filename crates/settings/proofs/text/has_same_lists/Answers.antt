use Rattle.std.proofs.Common.{◌∙◌, sym}
use Rattle.settings.proofs.Liking.{all_same_addresses, same_addresses}
use Rattle.settings.proofs.text.has_same_lists.Goals as goal

pub returns-then-eq-clause-peers : goal.returns-then-eq-clause-peers
returns-then-eq-clause-peers c = λ same.
    sym c.as_slice.ensures.value ∙ (same_addresses c.as_slice.result.now c.as_slice-then-eq.result.now c.eq-then-eq.result c.eq-then-eq.ensures same ∙ c.as_slice-then-eq.ensures.value)

pub returns-then-eq-clause-all : goal.returns-then-eq-clause-all
returns-then-eq-clause-all c = λ journal peers.
    all_same_addresses c.as_slice.result.now c.as_slice-then-eq.result.now c.eq-then-eq.result c.eq-then-eq.ensures
    (c.as_slice.ensures.value ∙ (peers ∙ sym c.as_slice-then-eq.ensures.value))
