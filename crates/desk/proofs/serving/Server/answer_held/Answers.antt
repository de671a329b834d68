use Rattle.std.proofs.Common.{refl}
use Rattle.numerals.specs.Lines.{line}
use Rattle.links.specs.Told.{has_written}
use Rattle.desk.specs.Replies.{reply_text}
use Rattle.desk.proofs.Holding.{loses_more, other_case}
use Rattle.desk.proofs.serving.Server.answer_held.Goals as goal

pub returns-then-not-is_told-clause-err : goal.returns-then-not-is_told-clause-err
returns-then-not-is_told-clause-err g c = (
  refl,
  record {
    reply = c.reply_to-reply.result.0;
    fits = c.reply_to-reply.ensures.reply;
    broke = loses_more (has_written (g.S.Stream.told c.args.stream.now) c.args.sheet.now.replies.items) (g.S.Stream.told c.reply_to-reply.new.stream)
        (line (reply_text c.reply_to-reply.result.0)) (other_case _ _ c.reply_to-reply.result.1 c.if-not-is_told.true c.reply_to-reply.ensures.told);
  },
)
