-- What is told says less, too.
use Rattle.std.proofs.Common.{ℕ, List, Option, Some, None, IfSome}
use Rattle.troubles.specs.Troubles.{IsTold}
use Rattle.troubles.specs.declared.trouble.Whereabouts.{Whereabouts}
use Rattle.troubles.specs.declared.trouble.Trouble.{Trouble}

pub says_else : (told : Option Trouble) (what : List ℕ) (At : Whereabouts → Type 0) (Says Else : List ℕ → Type 0) → ((words : List ℕ) → Else words)
    → IfSome told (IsTold what At Says) → IfSome told (IsTold what At Else)
says_else None what At Says Else else h = tt
says_else (Some trouble) what At Says Else else h = record { thing = h.thing; place = h.place; words = else _ }

-- and so near
pub tells_less : (told : Option Trouble) (what : List ℕ) (At Near : Whereabouts → Type 0) (Says Else : List ℕ → Type 0)
    → ((place : Whereabouts) → At place → Near place) → ((words : List ℕ) → Says words → Else words)
    → IfSome told (IsTold what At Says) → IfSome told (IsTold what Near Else)
tells_less None what At Near Says Else near else h = tt
tells_less (Some trouble) what At Near Says Else near else h =
    record { thing = h.thing; place = near _ h.place; words = else _ h.words }
