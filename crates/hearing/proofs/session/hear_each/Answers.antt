use Rattle.terms_prelude.specs.Terms.{IsWellFormed}
use Rattle.hearing.specs.Replies.{AnswersOne}
use Rattle.hearing.proofs.Turns.{turn, turn_has}
use Rattle.hearing.proofs.session.hear_each.Goals as goal

pub hear_one-requires-clause-well : goal.hear_one-requires-clause-well
hear_one-requires-clause-well c =
    turn_has (IsWellFormed c.args.stream.now.size) c.loop-statement.statement-index c.args.statements.now c.statement-item.result c.statement-item.is c.loop-statement-test.true c.requires.well

pub loop-statement-preserved : goal.loop-statement-preserved
loop-statement-preserved c = (
  c.in_ok-hear_one.ensures.has,
  turn (AnswersOne c.args.stream.now.from) c.args.stream.now.size c.args.broadcasts.now.items c.loop-statement.broadcasts.items c.hear_one.new.broadcasts.items c.args.statements.now
      c.args.text.now.items c.loop-statement.text.items c.hear_one.new.text.items
      c.loop-statement.statement-index c.statement-item.result c.statement-item.is c.loop-statement-test.true c.in_ok-hear_one.ensures.answers
      c.loop-statement.invariant.1,
)
