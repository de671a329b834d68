-- What records decide, kept question by question.
use Rattle.std.specs.Prelude.{ℕ, ◌≡◌, ◌+◌, ◌-◌, ◌<◌, ◌^◌, nat_lt, min, ◌&&◌, Bool, List, length, Option, Some, slice_set, if◌then◌else◌}
use Rattle.terms_prelude.specs.Terms.{Record, is_none}
use Rattle.member.specs.Answers.{verdict_of}
use Rattle.node.specs.Books.{decided_below}
use Rattle.node.specs.Decisions.{IsOrdered, OrderView}
use Rattle.node.specs.Verdicts.{known_at}

-- the verdict of each question, how many questions have one, and the decisions in order
pub record TallyView : Type 0 where
  pub verdicts : List (Option Bool)
  pub decided : ℕ
  pub order : OrderView

-- the question is decided for the bit, if there is such a question and it wasn't before
abbrev pub tallied : TallyView → ℕ → Bool → TallyView
tallied tally question bit =
    if nat_lt question (length tally.verdicts) && is_none (known_at tally.verdicts question)
    then record { verdicts = slice_set tally.verdicts question (Some bit); decided = min (tally.decided + 1) (2 ^ 16 - 1); order = tally.order }
    else tally

-- so many questions have the verdicts of the records
pub record AreCounted (questions : ℕ) (records : List Record) (tally : TallyView) : Type 0 where
  pub few : questions < 2 ^ 16
  pub count : length tally.verdicts ≡ questions
  pub each : (q : ℕ) → q < questions → known_at tally.verdicts q ≡ verdict_of records q
  pub decided : tally.decided ≡ decided_below questions records

-- the verdicts are those of the records, and so is their order
pub record IsTallied (questions : ℕ) (records : List Record) (tally : TallyView) : Type 0 where
  pub counted : AreCounted questions records tally
  pub ordered : IsOrdered questions records tally.order
