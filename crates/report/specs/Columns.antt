-- What the chart knows of a member.
use Rattle.std.specs.Prelude.{ℕ, ◌≡◌, ◌==◌, ◌++◌, Bool, Option, Some, None, List, [], length, replicate, slice_get}
use Rattle.std.specs.List.{list_any}
use Rattle.terms_prelude.specs.Terms.{Record}
use Rattle.sim.specs.declared.events.Event.{Event}
use Rattle.sim.specs.declared.events.Event.TheVariants.{DeliverAll}
use Rattle.sim.specs.declared.events.Mark.{Mark}
use Rattle.report.specs.declared.chart.column.Column.{Column}
use Rattle.report.specs.Charts.{member_of, statements_said, AreMoved}

-- a member of a cluster of n before the first event
pub record IsNew (n : ℕ) (liar : Bool) (column : Column) : Type 0 where
  pub side : column.is_liar ≡ liar
  pub silent : column.said.items ≡ []
  pub at_start : column.places.items ≡ replicate n 0

-- the members before the first event
pub record AreNew (n members : ℕ) (liars : List ℕ) (columns : List Column) : Type 0 where
  pub count : length columns ≡ members
  pub each : (k : ℕ) (column : Column) → slice_get columns k ≡ Some column → IsNew n (list_any (λ liar. liar == k) liars) column

-- how many statements a member has said, if there is one
abbrev pub count_said : Option Column → ℕ
count_said None = 0
count_said (Some column) = length column.said.items

-- how many the sender of a group has said; other events go by no such count
abbrev pub said_before : Event → List Column → ℕ
said_before (DeliverAll from to count toss) columns = count_said (slice_get columns from)
said_before event columns = 0

-- the event's member, before and after it; a group's sender had said so many statements
pub record Follows (count : ℕ) (event : Event) (mark : Mark) (saved : List Record) (old new : Column) : Type 0 where
  pub side : new.is_liar ≡ old.is_liar
  pub said : new.said.items ≡ old.said.items ++ statements_said saved
  pub places : AreMoved count event mark old.places.items new.places.items
  pub links : length new.places.items ≡ length old.places.items

-- all members, before and after an event: its own follows it, and the others stay as they are
abbrev pub FollowAll : Event → Mark → List Record → List Column → List Column → Type 0
FollowAll event mark saved old new = (k : ℕ) (before after : Column)
    → slice_get old k ≡ Some before → slice_get new k ≡ Some after
    → (k ≡ member_of event → Follows (said_before event old) event mark saved before after) × ((k ≡ member_of event → ⊥) → after ≡ before)
