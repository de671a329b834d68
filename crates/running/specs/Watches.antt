-- What a log is told of a member's book.
use Rattle.std.specs.Prelude.{ℕ, zero, suc, ◌≡◌, ◌<◌, ◌≤◌, ◌⊎◌, Bool, true, false, ◌||◌, List, [], ◌∷◌, ◌++◌, length, Option, Some, None, is_some, slice_get, slice_index_or, option_map}
use Rattle.std.specs.Option.{option_to_list}
use Rattle.terms_prelude.specs.Terms.{Record}
use Rattle.member.specs.Answers.{verdict_of}
use Rattle.running.specs.declared.events.LogEvent.{LogEvent}
use Rattle.running.specs.declared.events.LogEvent.TheVariants.{Decided}
use Rattle.running.specs.Queues.{Waiting, HasCome}

-- for each question whether its decision needs no telling any more, and whether the member's stop was seen
pub record Watching : Type 0 where
  pub told : List Bool
  pub stopped : Bool

-- for each question below this one whether the records decide it
abbrev pub decided_list : List Record → ℕ → List Bool
decided_list saved zero = []
decided_list saved (suc question) = decided_list saved question ++ is_some (verdict_of saved question) ∷ []

-- whether nothing is to be told of the question, as of one that there isn't
abbrev pub is_told : Watching → ℕ → Bool
is_told watching question = slice_index_or watching.told question true

-- a verdict is to be told once
abbrev pub decision_event : Bool → ℕ → Option Bool → Option LogEvent
decision_event true question verdict = None
decision_event false question None = None
decision_event false question (Some bit) = Some (Decided question bit)

-- what is to be told of a question to a member with these records
abbrev pub decision_of : Watching → List Record → ℕ → Option LogEvent
decision_of watching saved question = decision_event (is_told watching question) question (verdict_of saved question)

-- what is to be told of the questions below this one, in order
abbrev pub decisions_below : Watching → List Record → ℕ → List LogEvent
decisions_below watching saved zero = []
decisions_below watching saved (suc question) =
    decisions_below watching saved question ++ option_to_list (decision_of watching saved question)

-- the decisions of the questions below this one need no telling any more, and of no other question more than before
pub record AreTold (saved : List Record) (count : ℕ) (old new : List Bool) : Type 0 where
  pub below : (question : ℕ) → question < count
      → slice_get new question ≡ option_map (λ told. told || is_some (verdict_of saved question)) (slice_get old question)
  pub others : (question : ℕ) → count ≤ question → slice_get new question ≡ slice_get old question

-- these events came, in turn, each while fewer than 1,024 waited
abbrev pub HaveFit : Waiting → List LogEvent → Waiting → Type 0
HaveFit old [] new = new ≡ old
HaveFit old (event ∷ events) new = (length old.events < 1024) × ((next : Waiting) × HasCome old event next × HaveFit next events new)

-- a look at a book with these records and this number of questions: the decisions of the questions below `seen` wait to be told. They
-- are all, and then the member's stop is seen, unless 1,024 events wait
pub record HasLooked (saved : List Record) (count : ℕ) (stopped : Bool) (old new : Watching) (before after : Waiting) : Type 0 where
  pub seen : ℕ
  pub events : HaveFit before (decisions_below old saved seen) after
  pub told : AreTold saved seen old.told new.told
  pub all : ((seen ≡ count) × (new.stopped ≡ (old.stopped || stopped))) ⊎ ((1024 ≤ length after.events) × (new.stopped ≡ old.stopped))
