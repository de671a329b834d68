-- Which events of a run a chart shows.
use Rattle.std.specs.Prelude.{ℕ, ◌≡◌, ◌≤◌, ◌+◌, ◌==◌, ◌⊎◌, ◌↔◌, ⊤, Bool, true, false, Option, Some, None, IfSome, IsSomeAnd, IsTrue, List, [], ◌∷◌, length, take, drop, slice_get}
use Rattle.std.specs.Global.{Vec}
use Rattle.std.specs.List.{list_any}
use Rattle.terms_prelude.specs.Terms.{Record, Said, Decided, Statement, Size}
use Rattle.sim.specs.declared.events.Event.{Event}
use Rattle.sim.specs.declared.events.Event.TheVariants.{Propose, Deliver, DeliverAll, LieBytes, Reset}
use Rattle.sim.specs.declared.events.Which.{Which}
use Rattle.sim.specs.declared.events.Mark.{Mark}
use Rattle.report.specs.declared.chart.choice.Choice.{Choice}
use Rattle.report.specs.declared.chart.column.Column.{Column}
use Rattle.report.specs.Charts.{member_of, delivered, group_count, IsFrameOf}
use Rattle.report.specs.Columns.{AreNew, FollowAll}
use Rattle.report.specs.Traces.{is_skipped}

-- the member that an event comes from, if it comes from one
abbrev pub sender_of : Event → Option ℕ
sender_of (Deliver from to which toss) = Some from
sender_of (DeliverAll from to count toss) = Some from
sender_of (LieBytes liar to bytes toss) = Some liar
sender_of (Reset from to) = Some from
sender_of event = None

-- the question that a record is about
abbrev pub question_in : Record → ℕ
question_in (Said s) = s.place.question
question_in (Decided question round bit) = question

-- a statement of that question is among these
abbrev pub has_question : ℕ → List Statement → Bool
has_question question statements = list_any (λ s. s.place.question == question) statements

-- something that was saved is about that question
abbrev pub saves_on : ℕ → List Record → Bool
saves_on question saved = list_any (λ r. question_in r == question) saved

-- the statement that a link at that place brings of all that its sender has said, if it brings one
abbrev pub brought_over : List Statement → Option ℕ → Which → Option Statement
brought_over said None which = None
brought_over said (Some place) which = delivered said place which

-- the statement that a delivery from that sender brings, between these columns
abbrev pub brought_between : Option Column → Option Column → ℕ → Which → Option Statement
brought_between None receiver from which = None
brought_between (Some sender) None from which = None
brought_between (Some sender) (Some receiver) from which = brought_over sender.said.items (slice_get receiver.places.items from) which

-- the statement that a delivery brings, if it brings one
abbrev pub brought : List Column → ℕ → ℕ → Which → Option Statement
brought columns from to which = brought_between (slice_get columns from) (slice_get columns to) from which

-- the statements of a group of at most so many, over a link at that place
abbrev pub group_over : List Statement → Option ℕ → ℕ → List Statement
group_over said None count = []
group_over said (Some place) count = take (group_count (length said) place count) (drop place said)

-- those of a group from that sender, between these columns
abbrev pub group_between : Option Column → Option Column → ℕ → ℕ → List Statement
group_between None receiver from count = []
group_between (Some sender) None from count = []
group_between (Some sender) (Some receiver) from count = group_over sender.said.items (slice_get receiver.places.items from) count

-- the statements that a group brings
abbrev pub group_of : List Column → ℕ → ℕ → ℕ → List Statement
group_of columns from to count = group_between (slice_get columns from) (slice_get columns to) from count

-- An event is about a question: a proposal on it, a delivery whose statement is on it, a group in which one is, and a lie whose
-- bytes are the frame of a statement on it, or of none, since these may be about anything. What crashes, opens, fuses or
-- resets is about each.
abbrev pub IsAbout : Size → List Column → ℕ → Event → Type 0
IsAbout size columns question (Propose member own bit toss) = own ≡ question
IsAbout size columns question (Deliver from to which toss) = IsSomeAnd (brought columns from to which) (λ s. s.place.question ≡ question)
IsAbout size columns question (DeliverAll from to count toss) = IsTrue (has_question question (group_of columns from to count))
IsAbout size columns question (LieBytes liar to bytes toss) = (s : Statement) → IsFrameOf size bytes.items s → s.place.question ≡ question
IsAbout size columns question event = ⊤

-- the event's number is from the choice's first to its last, and both belong to it
abbrev pub IsWithin : Choice → ℕ → Type 0
IsWithin choice number = IfSome choice.from (λ from. from ≤ number) × IfSome choice.to (λ to. number ≤ to)

-- the event is for the choice's member, or comes from it
abbrev pub IsOfMember : Choice → Event → Type 0
IsOfMember choice event = IfSome choice.member (λ member. (member_of event ≡ member) ⊎ (sender_of event ≡ Some member))

-- the event is about the choice's question, or something on it was saved because of the event
abbrev pub IsOnQuestion : Choice → Size → List Column → Event → List Record → Type 0
IsOnQuestion choice size columns event saved =
    IfSome choice.question (λ question. IsAbout size columns question event ⊎ IsTrue (saves_on question saved))

-- the event of that number is chosen, where the members' columns are these before it
abbrev pub IsShownEvent : Choice → Size → List Column → ℕ → Event → List Record → Type 0
IsShownEvent choice size columns number event saved =
    IsWithin choice number × IsOfMember choice event × IsOnQuestion choice size columns event saved

-- the event of that number, counted from 1, with the columns before and after it: one that was skipped isn't chosen and changes
-- no column
pub record IsJudged (choice : Choice) (size : Size) (number : ℕ) (event : Event) (outcome : Mark) (saved : List Record) (old new : List Column) (is : Bool) : Type 0 where
  pub passed_over : is_skipped outcome ≡ true → (new ≡ old) × (is ≡ false)
  pub chosen : is_skipped outcome ≡ false → (IsTrue is ↔ IsShownEvent choice size old number event saved)
  pub follow : is_skipped outcome ≡ false → FollowAll event outcome saved old new
  pub count : length new ≡ length old

-- which of the events, the first of which has that number, are chosen, as far as the shortest of the lists goes
abbrev pub AreJudged : Choice → Size → ℕ → List Event → List Mark → List (Vec Record) → List Column → List Bool → Type 0
AreJudged choice size number [] marks saved columns chosen = chosen ≡ []
AreJudged choice size number (event ∷ events) [] saved columns chosen = chosen ≡ []
AreJudged choice size number (event ∷ events) (mark ∷ marks) [] columns chosen = chosen ≡ []
AreJudged choice size number (event ∷ events) (mark ∷ marks) (records ∷ saved) columns chosen =
    (next : List Column) × (is : Bool) × (others : List Bool) × IsJudged choice size number event mark records.items columns next is
    × AreJudged choice size (number + 1) events marks saved next others × (chosen ≡ is ∷ others)

-- which events of a run are chosen
pub record AreChosen (choice : Choice) (size : Size) (liars : List ℕ) (events : List Event) (marks : List Mark) (saved : List (Vec Record)) (chosen : List Bool) : Type 0 where
  pub first : List Column
  pub begins : AreNew size.n size.n liars first
  pub judged : AreJudged choice size 1 events marks saved first chosen
