-- The events of a book: their numbers, what is told of a decision, and the texts that a follower is sent.
use Rattle.std.specs.Prelude.{ℕ, ◌≡◌, ◌<◌, ◌≤◌, ◌+◌, ◌-◌, ◌⊎◌, Bool, true, false, min, Option, Some, None, List, [], ◌∷◌, ◌++◌, drop, length, take}
use Rattle.std.specs.List.{All}
use Rattle.std.specs.Bool.{beq}
use Rattle.gateway.specs.Events.{event_text}
use Rattle.gateway.specs.Scopes.{after}
use Rattle.gateway.specs.Watches.{Contradicts, Decides, IsInWindow, Watches, has_word, watch_first, watch_size, words_on}
use Rattle.gateway.specs.declared.events.Event.{Event}
use Rattle.gateway.specs.declared.events.Event.TheVariants as event
use Rattle.gateway.specs.declared.watch.Told.{Told}
use Rattle.gateway.specs.declared.watch.Watch.{Watch}
use Rattle.portal.specs.declared.book.Book.{Book}
use Rattle.portal.specs.Books.{book_note}

-- a number of 64 bits that so many come after, as far as there are numbers
abbrev pub number_after : ℕ → ℕ → ℕ
number_after number count = min 18446744073709551615 (number + count)

-- the number of the last event
abbrev pub last_number : Book → ℕ
last_number book = number_after book.before (length book.events.items)

-- the events after this number aren't kept, or there was no such number
abbrev pub IsUnknown : Book → ℕ → Type 0
IsUnknown book number = (number < book.before) ⊎ (book.before + length book.events.items < number)

-- the events after this number, 64 at most
abbrev pub events_after : Book → ℕ → List Event
events_after book number = take 64 (drop (number - book.before) book.events.items)

-- the texts of events, one behind the other. The first has the number after this one, and each the one after that before it
abbrev pub event_texts : ℕ → ℕ → List Event → List ℕ
event_texts life number [] = []
event_texts life number (event ∷ events) =
    event_text (record { life = life; number = after number }) event ++ event_texts life (after number) events

-- these events are told, in order: each has the next number, and those before them keep theirs. Older ones may be dropped, and so
-- may these if memory is refused
pub record HaveCome (more : List Event) (before : ℕ) (events : List Event) (before_now : ℕ) (events_now : List Event) : Type 0 where
  pub dropped : ℕ
  pub events_are : events_now ≡ drop dropped (events ++ more)
  pub last : number_after before_now (length events_now) ≡ number_after (number_after before (length events)) (length more)

abbrev pub AreTold : List Event → Book → Book → Type 0
AreTold more old new = HaveCome more old.before old.events.items new.before new.events.items

-- the milliseconds from a proposal to this moment
abbrev pub ms_since : Option ℕ → ℕ → Option ℕ
ms_since None time = None
ms_since (Some begun) time = Some (min 4294967295 (time - begun))

-- an event that tells of a member what it contradicts by the words on this question
abbrev pub IsContradiction : Watch → ℕ → Event → Type 0
IsContradiction watch question (event.Decided asked bit ms time) = ⊥
IsContradiction watch question (event.Proposed asked) = ⊥
IsContradiction watch question (event.Spent asked) = ⊥
IsContradiction watch question (event.Member member state) = ⊥
IsContradiction watch question (event.Contradiction member asked bit) =
    (asked ≡ question) × ((heard : List Told) → Watches watch heard → watch_first watch ≤ question → member < 64
    → Contradicts (watch_size watch) heard member question (Some bit))

-- followers are told of members that contradict the decision of this question, and of nothing else. All else stays
pub record TellsContradictions (question : ℕ) (old new : Book) : Type 0 where
  pub contradictions : List Event
  pub told : AreTold contradictions old new
  pub each : All (IsContradiction old.hearing question) contradictions
  pub rest : new ≡ record old { events = new.events; before = new.before }

-- followers are told of a decision: of the question, the bit and the time; and then of members that contradict it by this watch
pub record TellsDecision (watch : Watch) (question : ℕ) (bit : Bool) (time : ℕ) (old new : Book) : Type 0 where
  pub contradictions : List Event
  pub told : AreTold (event.Decided question bit (ms_since (book_note old question).begun time) time ∷ contradictions) old new
  pub each : All (IsContradiction watch question) contradictions

-- followers are told that the question is under way, or nothing
abbrev pub MayPropose : ℕ → Book → Book → Type 0
MayPropose question old new = AreTold [] old new ⊎ AreTold (event.Proposed question ∷ []) old new

-- followers are told that the member contradicts a decision for this bit, exactly if it does
abbrev pub ComparesTo : Told → Bool → Book → Book → Type 0
ComparesTo told bit old new =
    ((bit ≡ told.bit) × AreTold [] old new)
    ⊎ ((bit ≡ told.bit → ⊥) × AreTold (event.Contradiction told.member told.question told.bit ∷ []) old new)

-- what followers are told of a word, by the decision before it and with it: of a decision that is new, and of one that the member
-- contradicts
abbrev pub Tells : Told → ℕ → Option Bool → Option Bool → Book → Book → Type 0
Tells told time None None old new = MayPropose told.question old new
Tells told time None (Some bit) old new = TellsDecision new.hearing told.question bit time old new
Tells told time (Some bit) decision old new = ComparesTo told bit old new

-- the member told nothing of the question before, and the question is one of the window. No cluster has more than 64 members
pub record IsNews (watch : Watch) (heard : List Told) (told : Told) : Type 0 where
  pub member : told.member < (watch_size watch).n
  pub place : told.member < 64
  pub window : IsInWindow watch told.question
  pub first : has_word (words_on told.question heard) told.member ≡ false

-- a word that is news is heard: the watch stands for it too, and followers are told what it changes
pub record Hears (heard : List Told) (told : Told) (time : ℕ) (old new : Book) : Type 0 where
  pub before : Option Bool
  pub decision : Option Bool
  pub was : Decides (watch_size old.hearing) heard told.question before
  pub decides : Decides (watch_size old.hearing) (heard ++ told ∷ []) told.question decision
  pub watches : Watches new.hearing (heard ++ told ∷ [])
  pub tells : Tells told time before decision old new
