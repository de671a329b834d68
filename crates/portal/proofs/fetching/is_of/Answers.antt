use Rattle.std.proofs.Common.{rules}
use Rattle.portal.proofs.Fronts.{starts}
use Rattle.portal.proofs.fetching.is_of.Goals as goal

pub returns : goal.returns
returns c = starts c.args.question c.args.bit c.args.text.now c.as_bytes.result.now c.starts_with.result (search rules) c.starts_with.ensures.value
