use Rattle.terms_prelude.specs.Terms.{Proposal}
use Rattle.questions.specs.Replies.{reply_of}
use Rattle.member.specs.Words.{MemberIsAt, memory_disk, IsSound}
use Rattle.sim.specs.Presences.{mine}
use Rattle.member.proofs.Outcomes.{full_of}
use Rattle.sim.proofs.Moves.{told_ok}
use Rattle.sim.proofs.Room.{never_full}
use Rattle.sim.proofs.presence.Presence.propose.Goals as goal

pub returns-clause-moved : goal.returns-clause-moved
returns-clause-moved c size liars p w correct free at =
    let here : MemberIsAt memory_disk (mine size p) w c.in-Here.member = rw c.in-Here.is at at in
    told_ok reply_of size liars p w c.args.toss.0 c.args.fused (Proposal c.args.question c.args.bit) c.in-Here.member c.propose-answer.new.self
    c.propose-answer.result c.mark_of.result c.mark_of.ensures.mark (c.propose-answer.ensures.event.life (mine size p) liars w correct here tt)

pub returns-clause-memory : goal.returns-clause-memory
returns-clause-memory c size liars p w correct free at may =
    let here : MemberIsAt memory_disk (mine size p) w c.in-Here.member = rw c.in-Here.is at at in
    let sound : IsSound memory_disk c.in-Here.member = rw c.in-Here.is at c.requires.sound in
    c.mark_of.ensures.memory (never_full size liars p w c.args.toss.0 (Proposal c.args.question c.args.bit) c.in-Here.member correct free may sound here tt reply_of c.propose-answer.new.self
    c.propose-answer.result (full_of memory_disk c.in-Here.member c.propose-answer.new.self _ _ c.propose-answer.result c.propose-answer.ensures.fault) (c.propose-answer.ensures.event.life (mine size p) liars w correct here tt))
