use Rattle.script.proofs.Decks.{one_out}
use Rattle.script.proofs.laws.a_deal_takes_one_link_out.Goals as goal

pub returns : goal.returns
returns c = one_out
