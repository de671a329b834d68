use Rattle.std.proofs.Common.{◌∙◌, ap}
use Rattle.desk.specs.Answers.{standing_reply}
use Rattle.desk.proofs.Standing.{standing_reply_is}
use Rattle.desk.proofs.serving.Server.status.Goals as goal

pub returns-clause-reply : goal.returns-clause-reply
returns-clause-reply g c = record {
  toss = c.toss-toss.result.0;
  drawn = c.toss-toss.ensures;
  book = c.status_for.ensures.standing.book;
  book_is = c.status_for.ensures.standing.book_is;
  status = c.standing_reply.ensures ∙ ap standing_reply c.status_for.ensures.standing.status_is ∙ standing_reply_is c.status_for.ensures.standing.book;
}
