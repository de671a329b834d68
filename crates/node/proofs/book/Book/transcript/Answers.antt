use Rattle.node.proofs.Dossiers.{transcript_given, transcript_withheld, none_without}
use Rattle.node.proofs.book.Book.transcript.Goals as goal

pub returns-in-Ok-clause-ok : goal.returns-in-Ok-clause-ok
returns-in-Ok-clause-ok g c =
    transcript_given c.args.self.now c.args.question c.in-Ok.dossier c.transcript.result c.in-Ok.ensures.ok c.transcript.ensures.bit c.transcript.ensures.heard c.transcript.ensures.proof

pub returns-in-Ok-clause-err : goal.returns-in-Ok-clause-err
returns-in-Ok-clause-err g c =
    transcript_withheld c.args.self.now c.args.question c.in-Ok.dossier c.transcript.result c.in-Ok.ensures.ok c.transcript.ensures.err

pub returns-in-Err-clause-err : goal.returns-in-Err-clause-err
returns-in-Err-clause-err g c = none_without c.args.self.now c.args.question c.in-Err.fault c.in-Err.ensures.err
