use Rattle.std.proofs.Common.{rules, ◌≡◌, inr, ◌∙◌, ap, subst}
use Rattle.terms_prelude.specs.Terms.{Header, IsSize}
use Rattle.wire.specs.Texts.{frame_bytes}
use Rattle.wire.specs.declared.message.Message.TheVariants as message
use Rattle.wire.proofs.Frames.{partial0}
use Rattle.links.specs.Told.{Told, has_written}
use Rattle.links.specs.Tossed.{HandsTossed, ReadsTossed}
use Rattle.links.proofs.Tossing.{tossed_none, tossed_on}
use Rattle.links.proofs.Turning.{nothing_read, waits, so_far_on, so_far_off}
use Rattle.links.proofs.reader.Reader.read_session.Goals as goal

pub loop-init : goal.loop-init
loop-init g c =
    let same : c.size-size.result ≡ c.args.self.now.hub.now.size = c.size-size.ensures ∙ ap (λ (h : Header). h.size) c.header.ensures.hub in
    nothing_read c.args.self.now.version (HandsTossed g.T.Tosser.may_toss c.args.tosser.now c.args.tosser.now c.args.seat c.args.seat) (tossed_none g.T.Tosser.may_toss c.args.tosser.now c.args.seat) c.args.self.now.hub.now.size (g.S.Stream.told c.write_message.new.stream) c.new-feeder.result c.args.seat (partial0 c.args.self.now.hub.now.size)
    (subst IsSize same c.recall-2.ensures) c.recall.ensures (c.new-feeder.ensures.size ∙ same) c.new-feeder.ensures.end

pub returns-in-Err-turn : goal.returns-in-Err-turn
returns-in-Err-turn g c =
    let wrote : g.S.Stream.told c.write_message.new.stream ≡ has_written (g.S.Stream.told c.args.stream.now) (frame_bytes (message.Welcome c.args.seat.next)) = search (rules, c.in-Ok.ensures.ok, c.next.ensures) in
    let w = waits c.args.self.now.version (HandsTossed g.T.Tosser.may_toss c.args.tosser.now c.loop.tosser c.args.seat c.loop.seat) c.args.self.now.hub.now.size (g.S.Stream.told c.write_message.new.stream) (g.S.Stream.told c.loop.stream) c.loop.feeder c.args.seat c.loop.seat c.loop.invariant in
    inr (subst (λ (t : Told). ReadsTossed g.T.Tosser.may_toss c.args.tosser.now c.turn.new.tosser c.args.self.now.version c.args.self.now.hub.now.size t (g.S.Stream.told c.turn.new.stream) c.args.seat c.turn.new.seat c.in-Err-turn.why) wrote
    (so_far_off g.T.Tosser.may_toss c.args.tosser.now c.loop.tosser c.turn.new.tosser c.args.self.now.version c.args.self.now.hub.now.size (g.S.Stream.told c.write_message.new.stream) (g.S.Stream.told c.loop.stream) (g.S.Stream.told c.turn.new.stream) c.loop.feeder c.args.seat c.loop.seat c.turn.new.seat c.in-Err-turn.why
    c.loop.invariant (c.in-Err-turn.ensures.off c.loop.invariant.rest w)))

pub loop-preserved : goal.loop-preserved
loop-preserved g c =
    let w = waits c.args.self.now.version (HandsTossed g.T.Tosser.may_toss c.args.tosser.now c.loop.tosser c.args.seat c.loop.seat) c.args.self.now.hub.now.size (g.S.Stream.told c.write_message.new.stream) (g.S.Stream.told c.loop.stream) c.loop.feeder c.args.seat c.loop.seat c.loop.invariant in
    so_far_on c.args.self.now.version (HandsTossed g.T.Tosser.may_toss c.args.tosser.now c.loop.tosser c.args.seat c.loop.seat)
    (HandsTossed g.T.Tosser.may_toss c.loop.tosser c.turn.new.tosser c.loop.seat c.turn.new.seat) (HandsTossed g.T.Tosser.may_toss c.args.tosser.now c.turn.new.tosser c.args.seat c.turn.new.seat)
    (λ xs ys one two. tossed_on g.T.Tosser.may_toss c.args.tosser.now c.loop.tosser c.turn.new.tosser c.args.seat c.loop.seat c.turn.new.seat xs ys c.loop.invariant.handed.handed.peer one two)
    c.args.self.now.hub.now.size (g.S.Stream.told c.write_message.new.stream) (g.S.Stream.told c.loop.stream) (g.S.Stream.told c.turn.new.stream) c.loop.feeder c.turn.new.feeder c.args.seat c.loop.seat c.turn.new.seat
    c.loop.invariant (c.in_default.ensures.on c.loop.invariant.rest w)
