-- How a session ends where a group of statements isn't taken.
use Rattle.std.specs.Prelude.{ℕ, ◌≡◌, List}
use Rattle.terms_prelude.specs.Terms.{Size, Statement}
use Rattle.member.specs.declared.fault.MemberFault.{MemberFault}
use Rattle.member.specs.declared.fault.MemberFault.TheVariants as fault
use Rattle.node.specs.Lines.{IsRefusal}
use Rattle.links.specs.declared.ends.LinkEnd.{LinkEnd}
use Rattle.links.specs.declared.ends.LinkEnd.TheVariants as end

-- how a session ends where the member refuses a group
abbrev pub end_of : MemberFault → LinkEnd
end_of fault.Memory = end.Memory
end_of fault.Stopped = end.Stopped
end_of fault.Device = end.Stopped
end_of fault.JournalFull = end.Stopped
end_of fault.NoSuchQuestion = end.Stopped
end_of fault.NoSuchMember = end.Stopped

-- the group wasn't taken, and the session ends so
abbrev pub RefusesGroup : (D : Type 0) → Size → List (ℕ × Statement × ℕ) → LinkEnd → Type 0
RefusesGroup D size group why = (refusal : MemberFault) × IsRefusal D size group refusal × (why ≡ end_of refusal)
