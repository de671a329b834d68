use Rattle.std.proofs.Common.{rules}
use Rattle.member.proofs.member.Member.open.Goals as goal

-- the disk that is let go is the one that was handed back
pub release-requires : goal.release-requires
release-requires g c = search (rules, c.requires.released, c.in-Err.ensures.fault)
