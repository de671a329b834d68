-- The members of a question in memory, and what they said.
use Rattle.std.specs.Prelude.{ℕ, ◌≡◌, ◌≢◌, ◌⊎◌, ◌<◌, ◌≤◌, ◌-◌, ◌%◌, ◌==◌, zero, suc, Bool, true, false, Option, Some, List, [], ◌∷◌, ◌++◌, length, map, IsSomeAnd, slice_get, option_map}
use Rattle.std.specs.List.{filter, flat_map}
use Rattle.std.specs.declared.alloc.Global.{Global}
use Rattle.std.specs.declared.vec.Vec.{Vec}
use Rattle.terms_prelude.specs.Terms.{Decided, Echo, Event, Hearing, Proposal, Initial, Kind, Ready, Record, Reply, Said, Size, Statement, Value, records_of}
use Rattle.rounds.specs.Tossing.{next_toss, stream_of}
use Rattle.rounds.specs.declared.tosses.ChaChaTosser.{ChaChaTosser}
use Rattle.questions.specs.declared.Core.{Core}
use Rattle.questions.specs.Outcomes.{RepliesTo}
use Rattle.questions.specs.Readers.{core_me, core_size}
use Rattle.chances.specs.declared.links.Links.{Links}
use Rattle.chances.specs.declared.table.Table.{Table}
use Rattle.chances.specs.Links.{TakesOut, queue_of, queue_to}
use Rattle.chances.specs.Cores.{AreVerdicts, HasDecided, IsNewCore, seed_of}
use Rattle.chances.specs.Ends.{end_of}
use Rattle.chances.specs.Strategy.{lie}
use Rattle.chances.specs.declared.ends.End.{End}

-- the cluster's size
unfoldable pub table_size : Table → Size
table_size table = table.size

-- the number of correct members, which have the lowest numbers
unfoldable pub correct_of : Table → ℕ
correct_of table = length table.initials.items

-- their cores, by member
unfoldable pub cores_of : Table → List Core
cores_of table = table.cores.items

-- what the links have
unfoldable pub links_of : Table → Links
links_of table = table.links

-- the Initials that a correct member said, one for each step
unfoldable pub initials_of : Table → ℕ → List Statement
initials_of table member = queue_to table.initials.items member

-- where the tosses are drawn from
unfoldable pub tosses_of : Table → ChaChaTosser
tosses_of table = table.tosses

-- a table of a cluster of this size, the last of whose members lie, so many of them, before anything is said
pub record IsOpened (size : Size) (liars seed : ℕ) (table : Table) : Type 0 where
  pub its_size : table_size table ≡ size
  pub correct : correct_of table ≡ size.n - liars
  pub cores : (member : ℕ) → member < size.n - liars → IsSomeAnd (slice_get (cores_of table) member) (IsNewCore size member)
  pub links : (from to : ℕ) → queue_of (links_of table) from to ≡ []
  pub initials : (member : ℕ) → initials_of table member ≡ []
  pub tosses : tosses_of table ≡ stream_of (seed_of seed) 0

-- what a record says
abbrev pub said_in : Record → List Statement
said_in (Said s) = s ∷ []
said_in (Decided question round bit) = []

-- what records say, in order
abbrev pub all_said : List Record → List Statement
all_said records = flat_map said_in records

abbrev pub is_initial : Kind → Bool
is_initial Initial = true
is_initial Echo = false
is_initial Ready = false

-- the Initials among statements
abbrev pub initials_among : List Statement → List Statement
initials_among statements = filter (λ s. is_initial s.kind) statements

-- the member says these statements: they are at the end of each of its queues, and the Initials among them at the end of its
-- own. What others said, and their Initials, is as it was.
pub record Says (member : ℕ) (statements : List Statement) (before after : Table) : Type 0 where
  pub said : (to : ℕ) → member < (table_size before).n → to < correct_of before
      → queue_of (links_of after) member to ≡ queue_of (links_of before) member to ++ statements
  pub others : (sender to : ℕ) → sender ≢ member → queue_of (links_of after) sender to ≡ queue_of (links_of before) sender to
  pub initials : member < correct_of before → initials_of after member ≡ initials_of before member ++ initials_among statements
  pub other_initials : (other : ℕ) → other ≢ member → initials_of after other ≡ initials_of before other
  pub size : table_size after ≡ table_size before
  pub correct : correct_of after ≡ correct_of before

-- The correct member is told of the event with the next toss. Its core replies, and the member says what that reply says.
-- No other core changes.
pub record Answers (member : ℕ) (event : Event) (before after : Table) : Type 0 where
  pub old : Core
  pub new : Core
  pub reply : Reply
  pub sat : slice_get (cores_of before) member ≡ Some old
  pub sits : slice_get (cores_of after) member ≡ Some new
  pub replies : RepliesTo old (next_toss (tosses_of before)).0 event reply new
  pub same_size : core_size new ≡ core_size old
  pub same_member : core_me new ≡ core_me old
  pub others : (other : ℕ) → other ≢ member → slice_get (cores_of after) other ≡ slice_get (cores_of before) other
  pub tosses : tosses_of after ≡ (next_toss (tosses_of before)).1
  pub says : Says member (all_said (records_of reply)) before after

-- The statement at this place of the link's queue is taken off it, and nothing else changes.
pub record Takes (from to place : ℕ) (statement : Statement) (before after : Table) : Type 0 where
  pub taken : TakesOut place (queue_of (links_of before) from to) (queue_of (links_of after) from to) statement
  pub from_others : (sender receiver : ℕ) → sender ≢ from → queue_of (links_of after) sender receiver ≡ queue_of (links_of before) sender receiver
  pub to_others : (sender receiver : ℕ) → receiver ≢ to → queue_of (links_of after) sender receiver ≡ queue_of (links_of before) sender receiver
  pub cores : cores_of after ≡ cores_of before
  pub initials : (member : ℕ) → initials_of after member ≡ initials_of before member
  pub tosses : tosses_of after ≡ tosses_of before
  pub size : table_size after ≡ table_size before
  pub correct : correct_of after ≡ correct_of before

-- The liar says the statement: it is at the end of each of its queues. Nothing else changes.
pub record Lies (liar : ℕ) (statement : Statement) (before after : Table) : Type 0 where
  pub said : (to : ℕ) → to < correct_of before
      → queue_of (links_of after) liar to ≡ queue_of (links_of before) liar to ++ statement ∷ []
  pub others : (sender to : ℕ) → sender ≢ liar → queue_of (links_of after) sender to ≡ queue_of (links_of before) sender to
  pub initials : (member : ℕ) → initials_of after member ≡ initials_of before member
  pub tosses : tosses_of after ≡ tosses_of before
  pub size : table_size after ≡ table_size before
  pub correct : correct_of after ≡ correct_of before

-- It is taken off, and its receiver hears it.
pub record Delivers (from to place : ℕ) (before after : Table) : Type 0 where
  pub statement : Statement
  pub middle : Table
  pub takes : Takes from to place statement before middle
  pub hears : Answers to (Hearing from statement) middle after

-- the value of a member's Initial in the step, by the Initials that it said
abbrev pub value_at : ℕ → Vec Statement Global → Option Value
value_at step said = option_map (λ s. s.value) (slice_get said.items step)

-- those of all correct members
unfoldable pub said_of : Table → ℕ → List (Option Value)
said_of table step = map (value_at step) table.initials.items

-- these values, and behind them those of so many liars: each in turn lies by what stands before it
abbrev pub with_lies : ℕ → Size → ℕ → List (Option Value) → List (Option Value)
with_lies zero size step values = values
with_lies (suc liars) size step values =
    with_lies liars size step values ++ Some (lie size step (with_lies liars size step values)) ∷ []

-- What may happen at a table. A statement of a link is delivered; a liar tells one member something, or says it to all.
pub data Move : Type 0 where
  Delivery : (from : ℕ) → (to : ℕ) → (place : ℕ) → Move
  Lie : (liar : ℕ) → (to : ℕ) → (statement : Statement) → Move
  LieToAll : (liar : ℕ) → (statement : Statement) → Move

-- it happens. Who lies has none of the numbers of the correct members
abbrev pub Happens : Move → Table → Table → Type 0
Happens (Delivery from to place) before after = Delivers from to place before after
Happens (Lie liar to statement) before after = (correct_of before ≤ liar) × Answers to (Hearing liar statement) before after
Happens (LieToAll liar statement) before after = (correct_of before ≤ liar) × Lies liar statement before after

-- they happen one after the other
abbrev pub AllHappen : List Move → Table → Table → Type 0
AllHappen [] before after = after ≡ before
AllHappen (move ∷ moves) before after = (middle : Table) × Happens move before middle × AllHappen moves middle after

-- nothing else happened between these two
pub record Follows (before after : Table) : Type 0 where
  pub moves : List Move
  pub happen : AllHappen moves before after

-- each of the first members proposed its number mod 2, so many of them
abbrev pub HaveProposed : ℕ → Table → Table → Type 0
HaveProposed zero before after = after ≡ before
HaveProposed (suc member) before after =
    (middle : Table) × HaveProposed member before middle × Answers member (Proposal 0 (member % 2 == 1)) middle after

-- each correct member has decided
abbrev pub AllDecided : Table → Type 0
AllDecided table = (member : ℕ) (core : Core) → slice_get (cores_of table) member ≡ Some core → HasDecided core

-- no link has anything
abbrev pub NothingLeft : Table → Type 0
NothingLeft table =
    (from to : ℕ) → from < (table_size table).n → to < correct_of table → queue_of (links_of table) from to ≡ []

-- A question of these members was played: they sat down, the correct ones proposed, statements were delivered and liars lied
-- until each correct member had decided, or nothing was left on the links.
pub record IsPlayed (size : Size) (liars seed : ℕ) (table : Table) : Type 0 where
  pub opened : Table
  pub proposed : Table
  pub opens : IsOpened size liars seed opened
  pub proposes : HaveProposed (correct_of opened) opened proposed
  pub follows : Follows proposed table
  pub over : AllDecided table ⊎ NothingLeft table

-- it ended so: that is the end of what the correct members decided
pub record HasEnd (size : Size) (liars seed : ℕ) (end : End) : Type 0 where
  pub table : Table
  pub verdicts : List (Option (ℕ × Bool))
  pub played : IsPlayed size liars seed table
  pub are : AreVerdicts (cores_of table) verdicts
  pub ends : end ≡ end_of verdicts
