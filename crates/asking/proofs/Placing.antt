-- A text that names no place of a desk.
use Rattle.std.proofs.Common.{ℕ, ◌≡◌, ◌<◌, List, ◌++◌, codes, length}
use Rattle.settings.specs.Addresses.{IsAddress}
use Rattle.settings.specs.declared.address.Address.{Address}
use Rattle.asking.specs.Desks.{IsDeskPlace}
use Rattle.asking.specs.declared.desks.DeskPlace.{DeskPlace}
use Rattle.asking.specs.declared.desks.DeskPlace.TheVariants as place

-- it is no address, and no path follows `unix:`
pub no_place : (text : List ℕ) (at : DeskPlace) → ((address : Address) → IsAddress text address → ⊥)
    → ((path : List ℕ) → text ≡ codes "unix:" ++ path → 0 < length path → ⊥) → IsDeskPlace text at → ⊥
no_place text (place.Host address) unread pathless is = unread address is
no_place text (place.Path path) unread pathless is = pathless path.now is.0 is.1
