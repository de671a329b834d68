-- A call that looks leaves the state, and is one moment.
use Rattle.std.proofs.Common.{◌∙◌, ap, arith, length, take, drop}
use Rattle.disk.specs.Model.{State}
use Rattle.disk.specs.Replay.Call.{Still}
use Rattle.disk.proofs.Listed.{state_listed, elapses_listed}
use Rattle.disk.proofs.memory.MemDiskDisk.read_at.Goals as goal

pub returns-in_err-answer-clause-same : goal.returns-in_err-answer-clause-same
returns-in_err-answer-clause-same c =
    state_listed _ _ Still (c.answer.ensures.log ∙ c.look.ensures)

pub returns-in_err-answer-clause-time : goal.returns-in_err-answer-clause-time
returns-in_err-answer-clause-time c =
    elapses_listed _ _ _ Still (c.answer.ensures.log ∙ c.look.ensures)

pub returns-clause-same : goal.returns-clause-same
returns-clause-same c =
    state_listed _ _ Still (c.answer.ensures.log ∙ c.look.ensures)

pub returns-clause-time : goal.returns-clause-time
returns-clause-time c =
    elapses_listed _ _ _ Still (c.answer.ensures.log ∙ c.look.ensures)

pub read-requires : goal.read-requires
read-requires c =
    let same = state_listed _ _ Still (c.answer.ensures.log ∙ c.look.ensures) in
    omega (arith, c.requires, ap (λ (s : State). length s.seen) same)

pub returns-clause-answer : goal.returns-clause-answer
returns-clause-answer c =
    c.read.ensures ∙ ap (λ (s : State). take (length c.args.buf.now) (drop c.args.at s.seen)) (returns-clause-same c)
