use Rattle.wire.specs.Same.{same_decides}
use Rattle.wire.proofs.laws.equal_where_the_lists_are.Goals as goal

pub returns : goal.returns
returns c = same_decides
