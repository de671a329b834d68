use Rattle.member.specs.Readers.{member_header, member_saved}
use Rattle.test_memory.proofs.books.at_a_book.Given as goal

-- the board that was just made, and the header and the records of the member
abbrev pub ghosts-at_book : goal.ghosts-at_book
ghosts-at_book g a = record { names = a.board; header = member_header a.member; opening = member_saved a.member }
