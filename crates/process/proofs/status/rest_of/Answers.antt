use Rattle.process.proofs.Heads.{rest_is}
use Rattle.process.proofs.status.rest_of.Goals as goal

pub returns : goal.returns
returns c = rest_is c.behind.result _ _ c.behind.ensures.some c.behind.ensures.exact
