use Rattle.transcripts.proofs.Spelled.{no_bit}
use Rattle.transcripts.proofs.reading.bit_of.Goals as goal

pub returns-in-None-behind : goal.returns-in-None-behind
returns-in-None-behind c = no_bit c.args.words.now c.in-None.ensures.exact c.in-None-behind.ensures.exact
