use Rattle.std.proofs.Common.{rules, ◌≡◌, refl, List, [], sym, ap, ◌∙◌, subst, take, false, Err}
use Rattle.links.specs.declared.ends.LinkEnd.{LinkEnd}
use Rattle.links.specs.declared.ends.LinkEnd.TheVariants as end
use Rattle.links.specs.Tossed.{HandsTossed, HandsTossedSome}
use Rattle.links.proofs.Tossing.{none_tossed, some_of_all}
use Rattle.wire.specs.declared.message.Message.{Message}
use Rattle.links.specs.Told.{has_read, has_ended}
use Rattle.links.specs.Handing.{in_order, all_in_place, HandsInSome, HandsInFewer, HandsInAll}
use Rattle.links.proofs.Turning.{off_ended, off_lost, off_refused, read_of, turned_on, off_broken, turned_off}
use Rattle.links.proofs.reader.Reader.turn.Goals as goal

pub returns-in-Ok-eq0-clause-off : goal.returns-in-Ok-eq0-clause-off
returns-in-Ok-eq0-clause-off g c = λ rest w.
    let told : g.S.Stream.told c.read.new.self ≡ has_ended (g.S.Stream.told c.args.stream.now) = search (rules, c.in-Ok-eq0.ensures.end, c.in-Ok-eq0.field-0-test) in
    off_ended c.args.self.now.version (HandsTossedSome g.T.Tosser.may_toss c.args.tosser.now c.args.tosser.now c.args.seat.now c.args.seat.now end.Ended) c.args.feeder.now rest (g.S.Stream.told c.args.stream.now) (g.S.Stream.told c.read.new.self) c.args.seat.now w c.recall.ensures told
    (none_tossed g.T.Tosser.may_toss c.args.tosser.now c.args.tosser.now c.args.seat.now end.Ended [] c.recall.ensures ([], refl) (λ yes. (refl, refl)))

pub returns-in-Err-clause-off : goal.returns-in-Err-clause-off
returns-in-Err-clause-off g c = λ rest w.
    off_lost c.args.self.now.version (HandsTossedSome g.T.Tosser.may_toss c.args.tosser.now c.args.tosser.now c.args.seat.now c.args.seat.now end.Lost) c.args.feeder.now rest (g.S.Stream.told c.args.stream.now) (g.S.Stream.told c.read.new.self) c.args.seat.now w c.recall.ensures c.in-Err.ensures.fault
    (none_tossed g.T.Tosser.may_toss c.args.tosser.now c.args.tosser.now c.args.seat.now end.Lost [] c.recall.ensures ([], refl) (λ yes. (refl, refl)))

pub returns-in-Err-feed-clause-off : goal.returns-in-Err-feed-clause-off
returns-in-Err-feed-clause-off g c = λ rest w.
    let piece = take c.in-Ok.count c.read.new.buf in
    let told : g.S.Stream.told c.read.new.self ≡ has_read (g.S.Stream.told c.args.stream.now) piece = c.in-Ok.ensures.got (search (rules, c.in-Ok.count-test)) in
    off_refused c.args.self.now.version (HandsTossedSome g.T.Tosser.may_toss c.args.tosser.now c.args.tosser.now c.args.seat.now c.args.seat.now end.Memory) c.args.feeder.now rest piece (g.S.Stream.told c.args.stream.now) (g.S.Stream.told c.read.new.self) c.args.seat.now w c.recall.ensures c.are_bytes.ensures told
    (λ messages. none_tossed g.T.Tosser.may_toss c.args.tosser.now c.args.tosser.now c.args.seat.now end.Memory (in_order c.args.self.now.version messages) c.recall.ensures ([], refl) (λ yes. cc))

pub returns-in-More-clause-on : goal.returns-in-More-clause-on
returns-in-More-clause-on g c = λ rest w.
    let piece = take c.in-Ok.count c.read.new.buf in
    let told : g.S.Stream.told c.read.new.self ≡ has_read (g.S.Stream.told c.args.stream.now) piece = c.in-Ok.ensures.got (search (rules, c.in-Ok.count-test)) in
    turned_on c.args.self.now.version (HandsTossed g.T.Tosser.may_toss c.args.tosser.now c.hand_in.new.tosser c.args.seat.now c.hand_in.new.seat) (g.S.Stream.told c.args.stream.now) (g.S.Stream.told c.read.new.self) c.args.feeder.now c.feed.new.self rest piece c.feed.new.out.items c.args.seat.now c.hand_in.new.seat
    c.in-Ok-feed.ensures.size told c.are_bytes.ensures
    (read_of c.args.feeder.now c.feed.new.self rest piece c.clear.new.self.items c.feed.new.out.items w c.clear.ensures.items c.in-Ok-feed.ensures.reads)
    (sym c.in-More.is ∙ c.in-Ok-feed.ensures.answers)
    (search (rules, c.deref.ensures.value, c.in-Ok-hand_in.ensures.ok))
    (search (rules, c.deref.ensures.value, c.in-Ok-hand_in.ensures.in_place))
    (subst (λ (l : List Message). HandsTossed g.T.Tosser.may_toss c.args.tosser.now c.hand_in.new.tosser c.args.seat.now c.hand_in.new.seat (in_order c.args.self.now.version l)) c.deref.ensures.value c.in-Ok-hand_in.ensures.tossed)

pub returns-in-Broken-clause-off : goal.returns-in-Broken-clause-off
returns-in-Broken-clause-off g c = λ rest w.
    let piece = take c.in-Ok.count c.read.new.buf in
    let told : g.S.Stream.told c.read.new.self ≡ has_read (g.S.Stream.told c.args.stream.now) piece = c.in-Ok.ensures.got (search (rules, c.in-Ok.count-test)) in
    off_broken c.args.self.now.version (HandsTossedSome g.T.Tosser.may_toss c.args.tosser.now c.hand_in.new.tosser c.args.seat.now c.hand_in.new.seat (end.Broken c.in-Broken.fault)) (g.S.Stream.told c.args.stream.now) (g.S.Stream.told c.read.new.self) c.args.feeder.now.size rest piece c.feed.new.out.items c.feed.new.self.end c.in-Broken.fault c.args.seat.now c.hand_in.new.seat
    told c.are_bytes.ensures
    (read_of c.args.feeder.now c.feed.new.self rest piece c.clear.new.self.items c.feed.new.out.items w c.clear.ensures.items c.in-Ok-feed.ensures.reads)
    (sym c.in-Broken.is ∙ c.in-Ok-feed.ensures.answers)
    (search (rules, c.deref.ensures.value, c.in-Ok-hand_in.ensures.ok))
    (search (rules, c.deref.ensures.value, c.in-Ok-hand_in.ensures.in_place))
    (some_of_all g.T.Tosser.may_toss c.args.tosser.now c.hand_in.new.tosser c.args.seat.now c.hand_in.new.seat (end.Broken c.in-Broken.fault) (in_order c.args.self.now.version c.feed.new.out.items)
    (subst (λ (l : List Message). HandsTossed g.T.Tosser.may_toss c.args.tosser.now c.hand_in.new.tosser c.args.seat.now c.hand_in.new.seat (in_order c.args.self.now.version l)) c.deref.ensures.value c.in-Ok-hand_in.ensures.tossed)
    (search (rules, c.deref.ensures.value, c.in-Ok-hand_in.ensures.ok)))

pub returns-in-Err-hand_in-clause-off : goal.returns-in-Err-hand_in-clause-off
returns-in-Err-hand_in-clause-off g c = λ rest w.
    let piece = take c.in-Ok.count c.read.new.buf in
    let told : g.S.Stream.told c.read.new.self ≡ has_read (g.S.Stream.told c.args.stream.now) piece = c.in-Ok.ensures.got (search (rules, c.in-Ok.count-test)) in
    turned_off c.args.self.now.version (HandsTossedSome g.T.Tosser.may_toss c.args.tosser.now c.hand_in.new.tosser c.args.seat.now c.hand_in.new.seat c.in-Err-hand_in.why) (g.S.Stream.told c.args.stream.now) (g.S.Stream.told c.read.new.self) c.args.feeder.now.size rest piece c.feed.new.out.items c.feed.new.self.end c.in-Err-hand_in.why c.args.seat.now c.hand_in.new.seat
    told c.are_bytes.ensures
    (read_of c.args.feeder.now c.feed.new.self rest piece c.clear.new.self.items c.feed.new.out.items w c.clear.ensures.items c.in-Ok-feed.ensures.reads)
    (subst (λ (l : List Message). HandsInSome c.args.seat.now c.hand_in.new.seat (in_order c.args.self.now.version l)) c.deref.ensures.value c.in-Err-hand_in.ensures.some)
    (λ is. subst (λ (l : List Message). HandsInAll c.args.seat.now c.hand_in.new.seat (in_order c.args.self.now.version l)) c.deref.ensures.value (c.in-Err-hand_in.ensures.order (ap (λ (why : LinkEnd). Err why) is)))
    (λ is. subst (λ (l : List Message). all_in_place c.args.self.now.version l ≡ false) c.deref.ensures.value (c.in-Err-hand_in.ensures.out_of_order (ap (λ (why : LinkEnd). Err why) is)))
    (λ is. subst (λ (l : List Message). HandsInFewer c.args.seat.now c.hand_in.new.seat (in_order c.args.self.now.version l)) c.deref.ensures.value (c.in-Err-hand_in.ensures.refused (ap (λ (why : LinkEnd). Err why) is)))
    c.in-Err-hand_in.ensures.only
    (subst (λ (l : List Message). HandsTossedSome g.T.Tosser.may_toss c.args.tosser.now c.hand_in.new.tosser c.args.seat.now c.hand_in.new.seat c.in-Err-hand_in.why (in_order c.args.self.now.version l)) c.deref.ensures.value c.in-Err-hand_in.ensures.tossed_some)
