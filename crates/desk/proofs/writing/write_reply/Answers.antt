use Rattle.desk.proofs.writing.write_reply.Goals as goal

pub returns-in-Transcript-clause-err : goal.returns-in-Transcript-clause-err
returns-in-Transcript-clause-err g c = rw c.in-Transcript.is c.write_transcript.ensures.err

pub returns-in-BadQuestion-clause-ok : goal.returns-in-BadQuestion-clause-ok
returns-in-BadQuestion-clause-ok g c = rw c.in-BadQuestion.is c.hold-in-BadQuestion.ensures.ok

pub returns-in-Memory-clause-ok : goal.returns-in-Memory-clause-ok
returns-in-Memory-clause-ok g c = rw c.in-Memory.is c.hold-in-Memory.ensures.ok
