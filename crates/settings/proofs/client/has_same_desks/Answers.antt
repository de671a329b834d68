use Rattle.std.proofs.Common.{◌∙◌, sym}
use Rattle.settings.proofs.Liking.{all_same_addresses, same_addresses}
use Rattle.settings.proofs.client.has_same_desks.Goals as goal

pub returns : goal.returns
returns c = (
  (λ same. sym c.as_slice.ensures.value ∙ (same_addresses c.as_slice.result.now c.as_slice-2.result.now c.eq.result c.eq.ensures same ∙ c.as_slice-2.ensures.value)),
  (λ same. all_same_addresses c.as_slice.result.now c.as_slice-2.result.now c.eq.result c.eq.ensures (c.as_slice.ensures.value ∙ (same ∙ sym c.as_slice-2.ensures.value))),
)
