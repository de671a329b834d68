use Rattle.links.specs.Tossed.{HandsTossed}
use Rattle.links.proofs.Turning.{SoFar}
use Rattle.links.proofs.reader.Reader.read_session.Given as goal

abbrev pub invariant-loop : goal.invariant-loop
invariant-loop g l =
    SoFar l.fn.self.version (HandsTossed g.T.Tosser.may_toss l.initial.tosser l.tosser l.initial.seat l.seat) l.fn.self.hub.now.size (g.S.Stream.told l.initial.stream) (g.S.Stream.told l.stream) l.feeder l.initial.seat l.seat
