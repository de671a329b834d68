use Rattle.std.proofs.Common.{◌≡◌, drop}
use Rattle.desk.specs.Sessions.{AnswersLine}
use Rattle.desk.specs.Turns.{GetsOn, course}
use Rattle.desk.proofs.serving.Server.serve_bytes.Given as goal

-- what was to be done for all bytes is to be done for those that are left
abbrev pub invariant-loop-byte : goal.invariant-loop-byte
invariant-loop-byte g l = (l.pass.board ≡ g.J.Naming.names)
    × GetsOn (AnswersLine g.row.D.Denot g.T.Tosser.may_toss l.fn.self.hub.now g.J.Naming.opening)
    (course l.initial.pass l.initial.tosser (g.S.Stream.told l.initial.stream) l.initial.sheet) l.piece
    (course l.pass l.tosser (g.S.Stream.told l.stream) l.sheet) (drop l.byte-index l.piece)
