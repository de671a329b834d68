use Rattle.client.specs.Readings.{has_told}
use Rattle.client.proofs.Told.{enough_told, told_first}
use Rattle.client.proofs.laws.what_is_read_is_decided.Goals as goal

pub returns : goal.returns
returns c = λ size liars ok few steps run words question v d saved a round u correct has.
    c.safety.ensures.decided_as_told size liars ok few steps run (has_told words v) question v (enough_told size words v d)
    (λ m told honest. saved m v honest (told_first words v m told)) a round u correct has
