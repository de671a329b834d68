use Rattle.desk.proofs.Dossiers.{replied}
use Rattle.desk.proofs.answering.transcribe.Goals as goal

pub returns-in-Ok : goal.returns-in-Ok
returns-in-Ok g c = replied c.args.book.now c.args.question c.in-Ok.dossier c.transcript_reply.result c.in-Ok.ensures.ok.0 c.in-Ok.ensures.ok.1 c.transcript_reply.ensures
