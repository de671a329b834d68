use Rattle.transcripts.proofs.Spelled.{cut_first, only_line}
use Rattle.transcripts.proofs.reading.cut_line.Goals as goal

pub returns-in-Some : goal.returns-in-Some
returns-in-Some c = cut_first c.in-Some.end c.args.text.now c.in-Some.ensures.value

pub returns-in-None : goal.returns-in-None
returns-in-None c = only_line c.args.text.now c.requires c.in-None.ensures.value
