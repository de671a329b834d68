-- The second line of a fault.
use Rattle.std.specs.Prelude.{ℕ, ◌≡◌, List, [], ◌++◌, codes, Option, IfSome, string_bytes}
use Rattle.std.specs.Fmt.{decimal}
use Rattle.commands.specs.Quoting.{visible_text}
use Rattle.troubles.specs.declared.trouble.Whereabouts.{Whereabouts}
use Rattle.troubles.specs.declared.trouble.Whereabouts.TheVariants as place
use Rattle.troubles.specs.declared.trouble.Trouble.{Trouble}
use Rattle.troubles.specs.declared.trouble.Failure.{Failure}

-- what stands behind the thing
abbrev pub place_text : Whereabouts → List ℕ
place_text place.Whole = []
place_text (place.Line number) = codes ":" ++ decimal number
place_text (place.Byte at) = codes ": byte " ++ decimal at
place_text place.Open = codes ": open"
place_text place.Read = codes ": read"
place_text place.Write = codes ": write"
place_text place.Connect = codes ": connect"
place_text place.Listen = codes ": listen"

-- the thing, as it is shown, the place and the words
abbrev pub trouble_text : Trouble → List ℕ
trouble_text trouble = visible_text (string_bytes trouble.thing) ++ (place_text trouble.place ++ (codes ": " ++ string_bytes trouble.words))

-- it is the text that a value prints as, where that is known
abbrev pub IsPrinted : Option (List ℕ) → List ℕ → Type 0
IsPrinted printed text = IfSome printed (λ known. text ≡ known)

-- what is told names this thing, and such a place of it, in such words
pub record IsTold (what : List ℕ) (At : Whereabouts → Type 0) (Says : List ℕ → Type 0) (trouble : Trouble) : Type 0 where
  pub thing : string_bytes trouble.thing ≡ what
  pub place : At trouble.place
  pub words : Says (string_bytes trouble.words)

-- what is told of it, if anything is, names this thing
abbrev pub IsNamed : List ℕ → Failure → Type 0
IsNamed what failure = IfSome failure.trouble (λ trouble. string_bytes trouble.thing ≡ what)

-- it is told of the member `me` that a cluster of n hasn't
abbrev pub IsOfMember : ℕ → ℕ → Trouble → Type 0
IsOfMember n me = IsTold (codes "--me " ++ decimal me) (λ at. at ≡ place.Whole) (λ words. words ≡ codes "must be below n, which is " ++ decimal n)
