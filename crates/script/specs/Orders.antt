-- What orders and lines in the code stand for.
use Rattle.std.specs.Prelude.{ℕ, Bool, true, false, List, [], ◌∷◌, map}
use Rattle.terms_prelude.specs.Terms.{Size}
use Rattle.script.specs.declared.step.Order.{Order}
use Rattle.script.specs.declared.step.Order.TheVariants as order
use Rattle.script.specs.declared.lines.Line.{Line}
use Rattle.script.specs.Acts.{act_of}
use Rattle.script.specs.Steps.{ScriptStep}
use Rattle.script.specs.Steps.ScriptStep.{Once, Rounds, Random, Fair}
use Rattle.script.specs.Making.{Made, after_steps}
pub use Rattle.numerals.specs.Sentences.{texts}

-- what a line's order is
abbrev pub order_step : Order → ScriptStep
order_step (order.Once event) = Once (act_of event)
order_step (order.Rounds count) = Rounds count
order_step (order.Random count) = Random count
order_step (order.Fair left network) = Fair left network

-- what there is behind what these orders stand for
abbrev pub made_by : Size → List ℕ → List Order → Made → Made
made_by size correct orders made = after_steps size correct (map order_step orders) made

-- lines with their numbers
abbrev pub numbered : List Line → List (ℕ × List ℕ)
numbered lines = map (λ line. (line.number, line.text.now)) lines

-- whether the line is empty
abbrev pub is_empty : List ℕ → Bool
is_empty [] = true
is_empty (byte ∷ bytes) = false

-- the last of these is there, and is empty
abbrev pub ends_empty : List (List ℕ) → Bool
ends_empty [] = false
ends_empty (line ∷ []) = is_empty line
ends_empty (line ∷ next ∷ lines) = ends_empty (next ∷ lines)
