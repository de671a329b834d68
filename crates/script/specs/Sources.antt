-- A script whose events are made as they are asked for.
use Rattle.std.specs.Prelude.{ℕ, suc, ◌+◌, List, [], ◌∷◌, map}
use Rattle.rand_chacha.specs.ChaCha.{ChaCha}
use Rattle.terms_prelude.specs.Terms.{Size}
use Rattle.script.specs.declared.step.Order.{Order}
use Rattle.script.specs.Acts.{TossedAct}
use Rattle.script.specs.Steps.{ScriptStep}
use Rattle.script.specs.Making.{after_steps, turns}
use Rattle.script.specs.Orders.{order_step}

-- a script's cluster, the events of now and those behind them, and in how many turns at most these are made
pub record SourceFields : Type 0 where
  pub size : Size
  pub liars : List ℕ
  pub batch : List TossedAct
  pub left : List TossedAct
  pub turns : ℕ

-- the events of these steps, of a stream of words
abbrev pub events_of : Size → List ℕ → List ScriptStep → ChaCha → List TossedAct
events_of size correct steps stream = (after_steps size correct steps (record { events = []; stream = stream })).events

-- the steps that are left: of the order that is carried out, and of those behind it
abbrev pub steps_left : Order → List Order → List ScriptStep
steps_left rest orders = order_step rest ∷ map order_step orders

-- the events that are left
abbrev pub left_of : Size → List ℕ → Order → List Order → ChaCha → List TossedAct
left_of size correct rest orders stream = events_of size correct (steps_left rest orders) stream

-- one turn for each step, and those of its events
abbrev pub all_turns : List ScriptStep → ℕ
all_turns [] = 0
all_turns (step ∷ steps) = suc (turns step) + all_turns steps

abbrev pub turns_of : Order → List Order → ℕ
turns_of rest orders = all_turns (steps_left rest orders)
