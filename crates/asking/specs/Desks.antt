-- Where a desk is.
use Rattle.std.specs.Prelude.{ℕ, ◌≡◌, ◌<◌, List, ◌++◌, codes, length}
use Rattle.settings.specs.Addresses.{IsAddress}
use Rattle.asking.specs.declared.desks.DeskPlace.{DeskPlace}
use Rattle.asking.specs.declared.desks.DeskPlace.TheVariants as place

-- the text names this place: HOST:PORT, or `unix:` and a path that isn't empty
abbrev pub IsDeskPlace : List ℕ → DeskPlace → Type 0
IsDeskPlace text (place.Host address) = IsAddress text address
IsDeskPlace text (place.Path path) = (text ≡ codes "unix:" ++ path.now) × (0 < length path.now)
