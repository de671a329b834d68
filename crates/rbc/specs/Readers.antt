-- What a `Broadcasts` knows. Contracts cite these words, and never what it keeps to answer them.
use Rattle.std.specs.Prelude.{ℕ, Option}
use Rattle.terms_prelude.specs.Terms.{Kind, Value, Place, Size}
use Rattle.rbc.specs.declared.Broadcasts.{Broadcasts}
use Rattle.rbc.specs.Known.{value_known, accepted_known, said_known}
use Rattle.rbc.specs.Table.{known_in}
use Rattle.rbc.specs.Touching.{touched_known}

-- the size that it was made for
unfoldable pub broadcasts_size : Broadcasts → Size
broadcasts_size b = b.size

-- the member that it was made for
unfoldable pub broadcasts_me : Broadcasts → ℕ
broadcasts_me b = b.me

-- the value of the sender's first statement of that kind at that place
unfoldable pub broadcasts_got : Broadcasts → ℕ → Kind → Place → Option Value
broadcasts_got b from kind place = value_known place (known_in (touched_known b.cells) b.size.n place) from kind

-- the value that is accepted at the place
unfoldable pub broadcasts_accepted : Broadcasts → Place → Option Value
broadcasts_accepted b place = accepted_known place (known_in (touched_known b.cells) b.size.n place)

-- the value that the member itself said as that kind at that place
unfoldable pub broadcasts_said : Broadcasts → Kind → Place → Option Value
broadcasts_said b kind place = said_known (known_in (touched_known b.cells) b.size.n place) kind
