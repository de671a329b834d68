use Rattle.member.specs.Words.{MemberIsAt, IsSound, memory_disk}
use Rattle.sim.proofs.Moves.{parts_of}
use Rattle.sim.proofs.presence.Presence.into_parts.Goals as goal

pub returns-in-Here-clause-parts : goal.returns-in-Here-clause-parts
returns-in-Here-clause-parts c header w at =
    let here : MemberIsAt memory_disk header w c.in-Here.member = rw c.in-Here.is at at in
    let sound : IsSound memory_disk c.in-Here.member = rw c.in-Here.is at c.requires.sound in
    parts_of header w c.in-Here.member c.into_parts.result.0 c.into_parts.result.1.items sound here c.into_parts.ensures.disk c.into_parts.ensures.records
