-- The first note with which something is wrong.
use Rattle.std.proofs.Common.{ℕ, ◌≡◌, ◌+◌, ◌<◌, sym, ap, Option, Some, None, List, ◌∷◌, drop, length, get_or, add-one}
use Rattle.std.proofs.Math.Seq.{drop-cons}
use Rattle.trials.specs.Notes.{NoteFields}
use Rattle.trials.specs.Judging.{fault_of, or_else, first_fault}
use Rattle.trials.specs.declared.judging.Finding.{Finding}

-- what is left of a list at an index is the item there, and what is left behind it
pub next_of : {A : Type 0} (xs : List A) (i : ℕ) (d : A) → i < length xs → drop i xs ≡ get_or xs i d ∷ drop (i + 1) xs
next_of xs i d h = rw add-one (drop-cons xs i d h)

-- it is the first of those that are left
pub found : (notes rest : List NoteFields) (note : NoteFields) (finding : Finding) → fault_of notes note ≡ Some finding
    → Some finding ≡ first_fault notes (note ∷ rest)
found notes rest note finding e = sym (ap (λ fault. or_else fault (first_fault notes rest)) e)

-- it isn't
pub passed : (notes rest : List NoteFields) (note : NoteFields) → fault_of notes note ≡ None
    → first_fault notes rest ≡ first_fault notes (note ∷ rest)
passed notes rest note e = sym (ap (λ fault. or_else fault (first_fault notes rest)) e)
