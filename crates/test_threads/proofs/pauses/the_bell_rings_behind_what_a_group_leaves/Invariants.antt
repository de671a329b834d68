use Rattle.member.specs.Readers.{member_header, member_saved}
use Rattle.test_threads.proofs.pauses.the_bell_rings_behind_what_a_group_leaves.Given as goal

-- the board that was just made, and the header and the records of the member
abbrev pub ghosts-play : goal.ghosts-play
ghosts-play g a = record { names = a.board; header = member_header a.member; opening = member_saved a.member }
