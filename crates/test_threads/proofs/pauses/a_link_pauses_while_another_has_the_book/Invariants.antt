use Rattle.member.specs.Readers.{member_header, member_saved}
use Rattle.test_threads.proofs.pauses.a_link_pauses_while_another_has_the_book.Given as goal

-- the board that was just made, and the header and the records of the member
abbrev pub ghosts-play : goal.ghosts-play
ghosts-play g a = record { names = a.board; header = member_header a.member; opening = member_saved a.member }
