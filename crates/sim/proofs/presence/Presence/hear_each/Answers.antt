use Rattle.std.proofs.Common.{◌∙◌, refl}
use Rattle.std.proofs.lemmas.List.{drop_all}
use Rattle.std.proofs.lemmas.Result.{err_from_is_err_and}
use Rattle.sim.proofs.Lies.{none_heard, all_heard, one_heard, one_failed, one_more, next_of}
use Rattle.sim.proofs.presence.Presence.hear_each.Goals as goal

pub loop-statement-init : goal.loop-statement-init
loop-statement-init c = record {
  sound = c.requires.sound;
  side = refl;
  heard = λ size liars p w correct up at member lies formed. none_heard size liars p w c.args.fused c.args.from c.args.toss.0 c.args.statements.now c.args.self.now up at formed;
}

pub loop-statement-preserved : goal.loop-statement-preserved
loop-statement-preserved c = record {
  sound = c.hear.ensures.sound;
  side = c.hear.ensures.side ∙ c.loop-statement.invariant.side;
  heard = λ size liars p w correct up at member lies formed.
      one_heard size liars p w c.args.fused c.args.from c.args.toss.0 c.args.statements.now c.loop-statement.statement-index c.statement-item.result
      c.loop-statement.self c.hear.new.self c.in_ok-mark.mark
      (next_of c.args.statements.now c.loop-statement.statement-index c.statement-item.result c.loop-statement-test.true c.statement-item.is)
      correct member lies (c.loop-statement.invariant.heard size liars p w correct up at member lies formed)
      (λ v. c.in_ok-mark.ensures.moved size liars p v) c.in-Done.is;
}

pub returns-in_default : goal.returns-in_default
returns-in_default c = record {
  only = tt;
  sound = c.hear.ensures.sound;
  side = c.hear.ensures.side ∙ c.loop-statement.invariant.side;
  memory = λ size liars p w correct up at member lies formed may. tt;
  moved = λ size liars p w correct up at member lies formed.
      one_failed size liars p w c.args.fused c.args.from c.args.toss.0 c.args.statements.now c.loop-statement.statement-index c.statement-item.result
      c.loop-statement.self c.hear.new.self c.in_ok-mark.mark
      (next_of c.args.statements.now c.loop-statement.statement-index c.statement-item.result c.loop-statement-test.true c.statement-item.is)
      correct member lies (c.loop-statement.invariant.heard size liars p w correct up at member lies formed)
      (λ v. c.in_ok-mark.ensures.moved size liars p v) c.in_default.not-Done;
}

pub returns-clause-moved : goal.returns-clause-moved
returns-clause-moved c size liars p w correct up at member lies formed =
    all_heard size liars p w c.args.fused c.args.from c.args.toss.0 c.args.statements.now c.loop-statement.statement-index c.loop-statement.self
    (drop_all c.loop-statement.statement-index c.args.statements.now c.loop-statement-test.false)
    (c.loop-statement.invariant.heard size liars p w correct up at member lies formed)

pub returns-in_err-mark-clause-memory : goal.returns-in_err-mark-clause-memory
returns-in_err-mark-clause-memory c size liars p w correct up at member lies formed may =
    let made = err_from_is_err_and c.from_residual.result c.from_residual.ensures.1 in
    rw (made.1, made.2) (one_more size liars p w c.args.fused c.args.from c.args.toss.0 c.args.statements.now c.loop-statement.statement-index c.statement-item.result c.loop-statement.self
    (next_of c.args.statements.now c.loop-statement.statement-index c.statement-item.result c.loop-statement-test.true c.statement-item.is)
    may correct member lies (c.loop-statement.invariant.heard size liars p w correct up at member lies formed)
    (λ v. c.in_err-mark.ensures.memory size liars p v))
