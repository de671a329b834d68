use Rattle.chain.proofs.Openers.{of_all}
use Rattle.chain.proofs.laws.opened_for_proposals.Goals as goal

pub returns : goal.returns
returns c = of_all
