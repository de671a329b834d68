-- The addresses at which a member listens.
use Rattle.std.specs.Prelude.{ℕ, List, ◌++◌, codes}
use Rattle.std.specs.Fmt.{decimal}
use Rattle.files.specs.declared.doors.Door.{Door}
use Rattle.files.specs.declared.doors.Door.TheVariants as door

-- what is told of an address that isn't this host's
abbrev pub foreign_words : Door → List ℕ
foreign_words door.Desk = codes "no address of this host: `desk` is where clients are listened for"
foreign_words door.Listen = codes "no address of this host: `listen` is where this member listens"
foreign_words (door.Entry member) = codes "no address of this host: entry " ++ (decimal member ++ codes " of `peers` is where this member listens")
