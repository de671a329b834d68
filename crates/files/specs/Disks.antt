-- The disk in the file of a journal, and its mark.
use Rattle.std.specs.Prelude.{◌≡◌, ◌⊎◌}
use Rattle.std.specs.declared.io.ErrorKind.{ErrorKind}
use Rattle.std.specs.declared.io.ErrorKind.TheVariants as kinds
use Rattle.disk.specs.declared.file.FileDisk.{FileDisk}
use Rattle.files.specs.declared.unsynced.MarkedDisk.{MarkedDisk}

-- the disk of the file itself
abbrev pub marked_file : {P : Type 0} → MarkedDisk P → FileDisk P
marked_file marked = marked.disk

-- an error that means that a file, or the link that is read, isn't there for this user
abbrev pub MeansNone : ErrorKind → Type 0
MeansNone kind = (kind ≡ kinds.NotFound) ⊎ ((kind ≡ kinds.PermissionDenied) ⊎ (kind ≡ kinds.InvalidInput))
