use Rattle.member.specs.Readers.{member_header, member_saved}
use Rattle.test_threads.proofs.at_once.links_and_an_asker_run_at_once.Given as goal

-- the board that was just made, and the header and the records of the member
abbrev pub ghosts-at_once : goal.ghosts-at_once
ghosts-at_once g a = record { names = a.board; header = member_header a.member; opening = member_saved a.member }
