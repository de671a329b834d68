use Rattle.std.proofs.Common.{List, ◌++◌, reverse}
use Rattle.wire.specs.declared.feeder.Fed.{Fed}
use Rattle.wire.specs.declared.message.Message.{Message}
use Rattle.wire.specs.Feeding.{Feeds}
use Rattle.engine.specs.Inboxes.{size_of, end_of}
use Rattle.engine.proofs.Inboxes.{if_ok_more, feeds_behind}
use Rattle.engine.proofs.inbox.Inbox.feed.Goals as goal

pub returns-clause-reads : goal.returns-clause-reads
returns-clause-reads c =
    let inbox = c.args.self.now in
    let front : List Message = reverse inbox.first.items in
    let old : List Message = inbox.read.items in
    let new : List Message = c.feed.new.out.items in
    if_ok_more
    (λ (_ : Fed). Feeds (size_of inbox) (end_of inbox) c.args.piece.now old new c.feed.new.self.end)
    (λ (_ : Fed). Feeds (size_of inbox) (end_of inbox) c.args.piece.now (front ++ old) (front ++ new) c.feed.new.self.end)
    (λ fed reads. feeds_behind (size_of inbox) (end_of inbox) c.args.piece.now front old new c.feed.new.self.end reads) c.feed.result c.feed.ensures.reads
