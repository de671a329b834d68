use Rattle.terms_prelude.specs.Terms.{Hearing}
use Rattle.member.specs.Words.{MemberIsAt, memory_disk, IsSound, reply_saved}
use Rattle.sim.specs.Presences.{mine}
use Rattle.member.proofs.Outcomes.{full_of}
use Rattle.sim.proofs.Moves.{told_ok}
use Rattle.sim.proofs.Room.{never_full}
use Rattle.sim.proofs.presence.Presence.hear.Goals as goal

pub returns-clause-moved : goal.returns-clause-moved
returns-clause-moved c size liars p w correct free at sent =
    let here : MemberIsAt memory_disk (mine size p) w c.in-Here.member = rw c.in-Here.is at at in
    told_ok (reply_saved c.in-Here.member c.hear_saved-answer.new.self) size liars p w c.args.toss.0 c.args.fused (Hearing c.args.from c.args.statement.now) c.in-Here.member c.hear_saved-answer.new.self
    c.hear_saved-answer.result c.mark_of.result c.mark_of.ensures.mark (c.hear_saved-answer.ensures.event.life (mine size p) liars w correct here sent)

pub returns-clause-memory : goal.returns-clause-memory
returns-clause-memory c size liars p w correct free at sent may =
    let here : MemberIsAt memory_disk (mine size p) w c.in-Here.member = rw c.in-Here.is at at in
    let sound : IsSound memory_disk c.in-Here.member = rw c.in-Here.is at c.requires.sound in
    c.mark_of.ensures.memory (never_full size liars p w c.args.toss.0 (Hearing c.args.from c.args.statement.now) c.in-Here.member correct free may sound here sent (reply_saved c.in-Here.member c.hear_saved-answer.new.self) c.hear_saved-answer.new.self
    c.hear_saved-answer.result (full_of memory_disk c.in-Here.member c.hear_saved-answer.new.self _ _ c.hear_saved-answer.result c.hear_saved-answer.ensures.fault) (c.hear_saved-answer.ensures.event.life (mine size p) liars w correct here sent))
