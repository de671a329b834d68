use Rattle.member.specs.Readers.{member_header, member_saved}
use Rattle.running.proofs.run.run_member.Given as goal

-- the board that was just made, the header of the member, and the records that it was opened with
abbrev pub ghosts-run_named-J-Naming : goal.ghosts-run_named-J-Naming
ghosts-run_named-J-Naming g a = record { names = a.opened.board; header = member_header a.opened.member; opening = member_saved a.opened.member }

-- what the run was given
abbrev pub ghosts-run_named-J-Life : goal.ghosts-run_named-J-Life
ghosts-run_named-J-Life g a = record {
  addresses = a.opened.addresses.items;
  hosts = a.opened.hosts;
  seed = a.opened.seed;
}
