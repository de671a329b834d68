-- The asks of peers for epochs.
use Rattle.std.specs.Prelude.{ℕ, suc, ◌+◌, min, ◌≤◌, ◌==◌, ◌&&◌, Bool, List, ◌++◌, Option, count_by, filter, take, drop, position}
use Rattle.chain.specs.declared.opening.Ask.{Ask}
use Rattle.epochs.specs.declared.asks.TheConstants.{ASKS}

-- whether this is that ask
abbrev pub is_ask : Ask → Ask → Bool
is_ask ask one = one.peer == ask.peer && one.epoch == ask.epoch

-- the place at which an ask stands, if it does
abbrev pub place_of : List Ask → Ask → Option ℕ
place_of asks ask = position (is_ask ask) asks

-- for how many epochs a peer asks
abbrev pub asks_by : List Ask → ℕ → ℕ
asks_by asks peer = count_by (λ ask. ask.peer == peer) asks

-- each peer asks for two epochs at most
abbrev pub HasFewAsks : List Ask → Type 0
HasFewAsks asks = (peer : ℕ) → asks_by asks peer ≤ ASKS

-- a list without the one at this place, unless it passes
abbrev pub tested_at : {X : Type 0} → (X → Bool) → ℕ → List X → List X
tested_at test at all = take at all ++ (filter test (take 1 (drop at all)) ++ drop (suc at) all)

-- the second behind this one; a clock that is full stands still
abbrev pub tells_next : ℕ → ℕ
tells_next second = min (second + 1) 18446744073709551615
