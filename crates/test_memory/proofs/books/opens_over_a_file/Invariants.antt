use Rattle.member.specs.Readers.{member_header, member_saved}
use Rattle.test_memory.proofs.books.opens_over_a_file.Given as goal

-- the board that was just made, and the header and the records of the member
abbrev pub ghosts-opens : goal.ghosts-opens
ghosts-opens a = record { names = a.board; header = member_header a.member; opening = member_saved a.member }
