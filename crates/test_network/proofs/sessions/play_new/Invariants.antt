use Rattle.member.specs.Readers.{member_header, member_saved}
use Rattle.test_network.proofs.sessions.play_new.Given as goal

-- the board that was just made, and the header and the records of the member
abbrev pub ghosts-play_at : goal.ghosts-play_at
ghosts-play_at g a = record { names = a.board; header = member_header a.member; opening = member_saved a.member }
