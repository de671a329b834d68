-- What a line `fair K` makes, as a list of acts.
use Rattle.std.specs.Prelude.{ℕ, ◌≡◌, ◌<◌, ◌≤◌, ◌+◌, Some, List, [], map, slice_get}
use Rattle.rand_chacha.specs.ChaCha.{ChaCha}
use Rattle.terms_prelude.specs.Terms.{Size}
use Rattle.script.specs.Acts.{Act}
use Rattle.script.specs.Acts.Act.{Restart}
use Rattle.script.specs.Fair.{fresh}
use Rattle.script.specs.Making.{cast_of, fairs}

-- the acts of a line of so many events, in turn, where these members don't lie
abbrev pub fair_acts : Size → List ℕ → ℕ → ChaCha → List Act
fair_acts size correct k stream = map (λ event. event.act) (fairs (cast_of size correct) k fresh (record { events = []; stream = stream })).events

-- behind this place the member is opened again, at most 50 events later
pub record HasRestart (acts : List Act) (place member : ℕ) : Type 0 where
  pub later : ℕ
  pub behind : place < later
  pub soon : later ≤ place + 50
  pub there : slice_get acts later ≡ Some (Restart member)
