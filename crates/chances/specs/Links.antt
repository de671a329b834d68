-- What was said and isn't delivered yet.
use Rattle.std.specs.Prelude.{ℕ, ◌≡◌, ◌⊎◌, ◌<◌, ◌+◌, ◌++◌, ◌∷◌, Option, Some, None, List, [], length, slice_get, take, drop}
use Rattle.std.specs.declared.alloc.Global.{Global}
use Rattle.std.specs.declared.vec.Vec.{Vec}
use Rattle.terms_prelude.specs.Terms.{Statement}
use Rattle.chances.specs.declared.links.Links.{Links}

-- this statement stands at that place of the queue before, and the queue after is that without it
pub record TakesOut (place : ℕ) (before after : List Statement) (statement : Statement) : Type 0 where
  pub stood : slice_get before place ≡ Some statement
  pub left : after ≡ take place before ++ drop (place + 1) before

-- what is in a queue, if there is one
abbrev pub items_of : Option (Vec Statement Global) → List Statement
items_of (Some queue) = queue.items
items_of None = []

-- the queue to this receiver in a sender's row
abbrev pub queue_to : List (Vec Statement Global) → ℕ → List Statement
queue_to row to = items_of (slice_get row to)

-- the queue to this receiver, if there is such a row
abbrev pub queue_in : Option (Vec (Vec Statement Global) Global) → ℕ → List Statement
queue_in (Some row) to = queue_to row.items to
queue_in None to = []

-- what this sender said and this receiver hasn't got
unfoldable pub queue_of : Links → ℕ → ℕ → List Statement
queue_of links from to = queue_in (slice_get links.rows.items from) to

-- how many receivers there are in such a row, if there is one
abbrev pub count_in : Option (Vec (Vec Statement Global) Global) → ℕ
count_in (Some row) = length row.items
count_in None = 0

-- how many receivers this sender has links to, the first ones
unfoldable pub receivers_of : Links → ℕ → ℕ
receivers_of links from = count_in (slice_get links.rows.items from)

-- each queue of a row has the statement at its end, in addition to what it had
pub record AddsToAll (statement : Statement) (before after : List (Vec Statement Global)) : Type 0 where
  pub count : length after ≡ length before
  pub said : (to : ℕ) → to < length before → queue_to after to ≡ queue_to before to ++ statement ∷ []

-- each queue of a row is as it was, or has the statement at its end, in addition to what it had
pub record AddsToSome (statement : Statement) (before after : List (Vec Statement Global)) : Type 0 where
  pub count : length after ≡ length before
  pub each : (to : ℕ) → (queue_to after to ≡ queue_to before to) ⊎ (queue_to after to ≡ queue_to before to ++ statement ∷ [])
