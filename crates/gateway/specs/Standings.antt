-- The state of a question, as the gateway tells it.
use Rattle.std.specs.Prelude.{ℕ, Bool, true, false, Option, Some, None, List, codes}
use Rattle.gateway.specs.declared.standings.Stage.{Stage}
use Rattle.gateway.specs.declared.standings.Stage.TheVariants as stage
use Rattle.gateway.specs.declared.standings.Standing.{Standing}
use Rattle.gateway.specs.declared.standings.Standing.TheVariants.{Unproposed, Proposed, Spent, Decided}

-- a decision that may be believed goes before everything else that is known
abbrev pub standing_of : Option Bool → Stage → Standing
standing_of (Some bit) at = Decided bit
standing_of None stage.Unproposed = Unproposed
standing_of None stage.Proposed = Proposed
standing_of None stage.Spent = Spent

-- the letter of a state: `-`, `p`, `x`, `0`, `1`
abbrev pub letter : Standing → ℕ
letter Unproposed = 45
letter Proposed = 112
letter Spent = 120
letter (Decided false) = 48
letter (Decided true) = 49

-- the fields of JSON for a state
abbrev pub standing_fields : Standing → List ℕ
standing_fields Unproposed = codes "\"state\":\"unproposed\""
standing_fields Proposed = codes "\"state\":\"proposed\""
standing_fields Spent = codes "\"state\":\"spent\""
standing_fields (Decided false) = codes "\"state\":\"decided\",\"bit\":0"
standing_fields (Decided true) = codes "\"state\":\"decided\",\"bit\":1"
