-- Decisions in the order in which they were saved.
use Rattle.std.specs.Prelude.{ℕ, ◌≡◌, ◌<◌, List, [], ◌∷◌, length}
use mathlib.Core.List.{IsPrefix}
use Rattle.terms_prelude.specs.Terms.{Record, Said, Decided}
use Rattle.node.specs.declared.order.Decision.{Decision}

-- the decisions in these records, in order
abbrev pub decisions_in : List Record → List Decision
decisions_in [] = []
decisions_in (Said s ∷ rs) = decisions_in rs
decisions_in (Decided question round bit ∷ rs) = record { question = question; bit = bit } ∷ decisions_in rs

-- the first decisions in the records: all of them, where they are fewer than the questions
pub record AreDecisions (questions : ℕ) (records : List Record) (decisions : List Decision) : Type 0 where
  pub front : IsPrefix decisions (decisions_in records)
  pub all : length decisions < questions → decisions ≡ decisions_in records

-- decisions, and for how many there is room
pub record OrderView : Type 0 where
  pub items : List Decision
  pub most : ℕ

-- there is room for a decision of each question, and these are the records'
pub record IsOrdered (questions : ℕ) (records : List Record) (order : OrderView) : Type 0 where
  pub most_is : order.most ≡ questions
  pub are : AreDecisions questions records order.items
