-- Ten bytes are the frame of a statement where the first message in them is one.
use Rattle.std.proofs.lemmas.Option.{IfSome_then}
use Rattle.report.proofs.Lying.{is_frame, no_frame, took_of}
use Rattle.report.proofs.chart.lie.statement_in.Goals as goal

pub returns-clause-some : goal.returns-clause-some
returns-clause-some c =
    let took =
    took_of c.args.size c.new-feeder.result.size c.new-feeder.result.end c.feed.new.self.end c.args.bytes.now c.new-messages.result.items c.feed.new.out.items c.as_slice.result.now
    c.in-Ok.ensures.reads c.new-feeder.ensures.size c.new-feeder.ensures.end c.new-messages.ensures.items c.as_slice.ensures.value in
    IfSome_then c.first_statement.result c.first_statement.ensures.some
    (λ s first. is_frame c.args.size c.args.bytes.now c.as_slice.result.now c.feed.new.self.end s took c.if-bytes-ne-STATEMENT_FRAME.false first)

pub returns-clause-none : goal.returns-clause-none
returns-clause-none c h s frame =
    let took =
    took_of c.args.size c.new-feeder.result.size c.new-feeder.result.end c.feed.new.self.end c.args.bytes.now c.new-messages.result.items c.feed.new.out.items c.as_slice.result.now
    c.in-Ok.ensures.reads c.new-feeder.ensures.size c.new-feeder.ensures.end c.new-messages.ensures.items c.as_slice.ensures.value in
    c.first_statement.ensures.none h s (no_frame c.args.size c.args.bytes.now c.as_slice.result.now c.feed.new.self.end s c.recall.ensures took frame)
