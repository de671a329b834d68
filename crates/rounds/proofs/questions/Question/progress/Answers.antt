use Rattle.rounds.proofs.Progressing.{none_said, last_said}
use Rattle.std.proofs.Common.{arith}
use Rattle.rounds.proofs.questions.Question.progress.Goals as goal

pub returns-then-end-eq0 : goal.returns-then-end-eq0
returns-then-end-eq0 c = λ past st. none_said c.args.self.now past st (λ i. c.end-end.ensures.none i (omega arith))

pub returns : goal.returns
returns c = λ past st.
    last_said c.args.self.now past st c.end-end.result c.round_and_step.result.0 c.round_and_step.result.1 c.round_and_step.ensures.place
    c.round_and_step.ensures.number (omega arith) (c.end-end.ensures.last (omega arith)) c.end-end.ensures.none
