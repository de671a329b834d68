use Rattle.script.proofs.Once.{each_once}
use Rattle.script.proofs.laws.a_new_deck_has_each_link_once.Goals as goal

pub returns : goal.returns
returns c = each_once
