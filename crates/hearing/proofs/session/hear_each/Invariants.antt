use Rattle.hearing.specs.Replies.{AnswersOne}
use Rattle.hearing.specs.Sessions.{HasBroadcasts}
use Rattle.std.proofs.Common.{take}
use Rattle.hearing.proofs.Turns.{AreAnswered}
use Rattle.hearing.proofs.session.hear_each.Given as goal

-- the statements so far are answered in turn
abbrev pub invariant-loop-statement : goal.invariant-loop-statement
invariant-loop-statement l =
    HasBroadcasts l.fn.stream.size l.broadcasts.items
    × AreAnswered (AnswersOne l.fn.stream.from) l.fn.stream.size l.fn.broadcasts.items l.broadcasts.items (take l.statement-index l.fn.statements) l.fn.text.items l.text.items
