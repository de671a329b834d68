use Rattle.std.proofs.Common.{rules}
use Rattle.settings.proofs.Linking.{never}
use Rattle.settings.proofs.cluster.address_at.Goals as goal

pub returns-in-None-clause-found : goal.returns-in-None-clause-found
returns-in-None-clause-found c = λ within octets host. never octets (c.in-None.ensures.exact octets host)
