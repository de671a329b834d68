use Rattle.std.proofs.Common.{List, ℕ, ◌+◌, drop, rules, subst}
use Rattle.std.proofs.lemmas.List.{drop_more}
use Rattle.links.specs.Told.{has_written}
use Rattle.desk.specs.Sessions.{AnswersLine, sitting}
use Rattle.desk.specs.Turns.{Serving}
use Rattle.desk.proofs.serving.Server.serve_bytes.Goals as goal

pub returns-in-Err-clause-off : goal.returns-in-Err-clause-off
returns-in-Err-clause-off g c = λ begun old s.
    c.in-Err.ensures.off (drop (c.loop-byte.byte-index + 1) c.args.piece.now) begun old
    (subst (λ (l : List ℕ). Serving (AnswersLine g.row.D.Denot g.T.Tosser.may_toss c.args.self.now.hub.now g.J.Naming.opening) begun
    (sitting c.loop-byte.pass c.loop-byte.tosser) old (has_written (g.S.Stream.told c.loop-byte.stream) c.loop-byte.sheet.replies.items) c.loop-byte.sheet.line l)
    (drop_more c.args.piece.now c.loop-byte.byte-index _ (search rules)) (c.loop-byte.invariant.1 begun old s))
