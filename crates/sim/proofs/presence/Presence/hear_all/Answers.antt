use Rattle.member.specs.Words.{hearings, MemberIsAt, memory_disk, IsSound}
use Rattle.sim.specs.Presences.{mine}
use Rattle.member.proofs.Outcomes.{full_of}
use Rattle.sim.proofs.Moves.{told_all_ok}
use Rattle.sim.proofs.Room.{never_full_all}
use Rattle.sim.proofs.presence.Presence.hear_all.Goals as goal

pub returns-clause-moved : goal.returns-clause-moved
returns-clause-moved c size liars p w correct free at come =
    let here : MemberIsAt memory_disk (mine size p) w c.in-Here.member = rw c.in-Here.is at at in
    told_all_ok size liars p w c.args.fused (hearings c.args.events.now) c.in-Here.member c.hear_all-answers.new.self
    c.hear_all-answers.result c.mark_of.result c.mark_of.ensures.mark (c.hear_all-answers.ensures.event.life (mine size p) liars w correct here come)

pub returns-clause-memory : goal.returns-clause-memory
returns-clause-memory c size liars p w correct free at come may =
    let here : MemberIsAt memory_disk (mine size p) w c.in-Here.member = rw c.in-Here.is at at in
    let sound : IsSound memory_disk c.in-Here.member = rw c.in-Here.is at c.requires.sound in
    c.mark_of.ensures.memory (λ full. never_full_all size liars p w c.in-Here.member correct free may sound here (hearings c.args.events.now) come (full_of memory_disk c.in-Here.member c.hear_all-answers.new.self _ _ c.hear_all-answers.result c.hear_all-answers.ensures.fault full))
