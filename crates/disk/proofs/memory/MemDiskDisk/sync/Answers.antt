-- Each clause from what was listed, the fuse and the answer.
use Rattle.std.proofs.Common.{◌≡◌, ◌∙◌, ap, Bool}
use Rattle.disk.specs.Fuse.{lets_pass}
use Rattle.disk.specs.Replay.{listed, state_of, after_call, sync_if}
use Rattle.disk.proofs.Listed.{state_listed, elapses_listed}
use Rattle.disk.proofs.Answered.{synced, not_synced}
use Rattle.disk.proofs.memory.MemDiskDisk.sync.Goals as goal

-- the past has the sync more, as the fuse lets it
was_listed : (c : goal.After-answer) → c.answer.new.self.log ≡ listed c.args.self.now.log (sync_if (lets_pass c.args.self.now.fuse))
was_listed c =
    c.answer.ensures.log ∙ c.sync.ensures
    ∙ ap (λ (passes : Bool). listed c.args.self.now.log (sync_if passes)) c.passes-passes.ensures

state_is : (c : goal.After-answer) → state_of c.answer.new.self.log ≡ after_call (state_of c.args.self.now.log) (sync_if (lets_pass c.args.self.now.fuse))
state_is c = state_listed _ _ _ (was_listed c)

pub returns-clause-synced : goal.returns-clause-synced
returns-clause-synced c = synced _ _ _ c.answer.result (state_is c) c.answer.ensures.ok

pub returns-clause-failed : goal.returns-clause-failed
returns-clause-failed c = not_synced _ _ _ c.answer.result (state_is c) c.answer.ensures.ok

pub returns-clause-time : goal.returns-clause-time
returns-clause-time c = elapses_listed _ _ _ _ (was_listed c)
