-- A call that looks leaves the state, and is one moment.
use Rattle.std.proofs.Common.{◌∙◌, ap, length}
use Rattle.disk.specs.Model.{State}
use Rattle.disk.specs.Replay.Call.{Still}
use Rattle.disk.proofs.Listed.{state_listed, elapses_listed}
use Rattle.disk.proofs.memory.MemDiskDisk.len.Goals as goal

pub returns-in_err-answer-clause-same : goal.returns-in_err-answer-clause-same
returns-in_err-answer-clause-same c =
    state_listed _ _ Still (c.answer.ensures.log ∙ c.look.ensures)

pub returns-in_err-answer-clause-time : goal.returns-in_err-answer-clause-time
returns-in_err-answer-clause-time c =
    elapses_listed _ _ _ Still (c.answer.ensures.log ∙ c.look.ensures)

pub returns-clause-same : goal.returns-clause-same
returns-clause-same c =
    state_listed _ _ Still (c.answer.ensures.log ∙ c.look.ensures)

pub returns-clause-time : goal.returns-clause-time
returns-clause-time c =
    elapses_listed _ _ _ Still (c.answer.ensures.log ∙ c.look.ensures)

pub returns-clause-answer : goal.returns-clause-answer
returns-clause-answer c =
    ap length c.seen.ensures ∙ ap (λ (s : State). length s.seen) (returns-clause-same c)
