-- Each clause from what was listed, the fuse and the answer.
use Rattle.std.proofs.Common.{◌≡◌, ◌∙◌, ap, Bool}
use Rattle.disk.specs.Fuse.{lets_pass}
use Rattle.disk.specs.Replay.{listed, state_of, after_call, write_if}
use Rattle.disk.proofs.Listed.{state_listed, elapses_listed}
use Rattle.disk.proofs.Answered.{written, torn, stopped}
use Rattle.disk.proofs.memory.MemDiskDisk.write_at.Goals as goal

-- the past has the write more, as the fuse lets it
was_listed : (c : goal.After-answer) → c.answer.new.self.log ≡ listed c.args.self.now.log (write_if (lets_pass c.args.self.now.fuse) c.args.at c.args.bytes.now)
was_listed c =
    c.answer.ensures.log ∙ c.in-Ok.ensures.ok
    ∙ ap (λ (passes : Bool). listed c.args.self.now.log (write_if passes c.args.at c.args.bytes.now)) c.passes-passes.ensures

state_is : (c : goal.After-answer) → state_of c.answer.new.self.log ≡ after_call (state_of c.args.self.now.log) (write_if (lets_pass c.args.self.now.fuse) c.args.at c.args.bytes.now)
state_is c = state_listed _ _ _ (was_listed c)

pub returns-in-Ok-clause-written : goal.returns-in-Ok-clause-written
returns-in-Ok-clause-written c = written _ _ c.args.at c.args.bytes.now _ c.answer.result (state_is c) c.answer.ensures.ok

pub returns-in-Ok-clause-torn : goal.returns-in-Ok-clause-torn
returns-in-Ok-clause-torn c = torn _ _ c.args.at c.args.bytes.now _ _ c.answer.result (state_is c) c.answer.ensures.ok

pub returns-in-Ok-clause-stopped : goal.returns-in-Ok-clause-stopped
returns-in-Ok-clause-stopped c = stopped _ _ c.args.at c.args.bytes.now _ c.answer.result (state_is c) c.answer.ensures.ok

pub returns-in-Ok-clause-time : goal.returns-in-Ok-clause-time
returns-in-Ok-clause-time c = elapses_listed _ _ _ _ (was_listed c)
