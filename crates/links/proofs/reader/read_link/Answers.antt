use Rattle.std.proofs.Common.{sym, subst}
use Rattle.links.specs.Told.{Told}
use Rattle.links.specs.Handing.{ReadsLink}
use Rattle.links.proofs.Tossing.{reads_alone}
use Rattle.links.proofs.reader.read_link.Goals as goal

pub returns-clause-reads : goal.returns-clause-reads
returns-clause-reads g c =
    let old = g.S.Stream.told c.args.stream.now in
    let reads = reads_alone g.T.Tosser.may_toss c.args.tosser.now c.read_session-seat.new.tosser c.args.version c.args.hub.now.size old (g.S.Stream.told c.read_session-seat.new.stream) c.args.seat c.read_session-seat.result.0 c.read_session-seat.result.1 c.read_session-seat.ensures in
    subst (λ (t : Told). ReadsLink c.args.version c.args.hub.now.size old t c.args.seat c.read_session-seat.result.0 c.read_session-seat.result.1) (sym c.close.ensures.told) reads
