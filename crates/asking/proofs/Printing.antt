-- What is printed of a reply as an object, and its status.
use Rattle.std.proofs.Common.{ℕ, ◌≡◌, List, [], ◌∷◌, ◌++◌, Option, Result, Ok, Err, IfOk}
use Rattle.std.specs.Io.KnownBytes.{Appends}
use Rattle.commands.specs.Replies.{SaysSame}
use Rattle.commands.specs.Talks.{HasStatus}
use Rattle.commands.specs.declared.fault.TalkFault.{TalkFault}

-- an object that says the same was written, and the status is the reply's
abbrev pub Prints : List ℕ → Option (List ℕ) → Option (List ℕ) → ℕ → Type 0
Prints reply old new status = (object : List ℕ) × SaysSame reply object × Appends old new (object ++ 10 ∷ []) × HasStatus reply status

pub status_printed : (reply : List ℕ) (old new : Option (List ℕ)) (result : Result ℕ TalkFault)
    → IfOk result (Prints reply old new) → IfOk result (HasStatus reply)
status_printed reply old new (Ok status) (object, says, written, has) = has
status_printed reply old new (Err fault) is = tt

pub object_printed : (reply : List ℕ) (old new : Option (List ℕ)) (result : Result ℕ TalkFault)
    → IfOk result (Prints reply old new)
    → IfOk result (λ _. (object : List ℕ) × SaysSame reply object × Appends old new (object ++ 10 ∷ []))
object_printed reply old new (Ok status) (object, says, written, has) = (object, says, written)
object_printed reply old new (Err fault) is = tt
