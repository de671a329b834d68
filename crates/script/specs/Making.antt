-- What lines of events stand for.
use Rattle.std.specs.Prelude.{ℕ, zero, suc, ◌≡◌, ◌<◌, ◌≤◌, ◌*◌, ◌⊎◌, if◌then◌else◌, List, [], ◌∷◌, ◌++◌, length, map}
use Rattle.std.specs.List.{flat_map}
use Rattle.rand_chacha.specs.ChaCha.{ChaCha}
use Rattle.terms_prelude.specs.Terms.{Size}
use Rattle.sim.specs.declared.events.Which.TheVariants.{Next}
use Rattle.sim.specs.Outcomes.{among}
use Rattle.script.specs.declared.fault.ScriptFault.{ScriptFault}
use Rattle.script.specs.declared.fault.ScriptFault.TheVariants as faults
use Rattle.sim.specs.declared.TheConstants.{MOST_EVENTS}
use Rattle.script.specs.LineWords.{words_of}
use Rattle.script.specs.Acts.{Act, TossedAct}
use Rattle.script.specs.Acts.Act.{Deliver}
use Rattle.script.specs.Drawing.{drawn, tossed}
use Rattle.script.specs.Fair.{Cast, Network, event}
use Rattle.script.specs.Steps.{ScriptStep, SaysStep}
use Rattle.script.specs.Steps.ScriptStep.{Once, Rounds, Random, Fair}

-- the members below a number that don't lie, upwards
abbrev pub correct_below : ℕ → List ℕ → List ℕ
correct_below zero liars = []
correct_below (suc member) liars = correct_below member liars ++ (if among liars member then [] else member ∷ [])

-- a delivery of the sender's next statement to each of these, in turn
abbrev pub row : ℕ → List ℕ → List Act
row from members = map (λ to. Deliver from to Next) members

-- a delivery of the next statement on each link between these members, by sender and then by receiver
abbrev pub round : List ℕ → List Act
round members = flat_map (λ from. row from members) members

-- the list so many times
abbrev pub times : {A : Type 0} → ℕ → List A → List A
times zero xs = []
times (suc k) xs = xs ++ times k xs

-- the events so far, and the stream of words behind those that were drawn
pub record Made : Type 0 where
  pub events : List TossedAct
  pub stream : ChaCha

-- one event more
unfoldable pub add : Act → Made → Made
add act made = record { events = made.events ++ (tossed act made.stream).0 ∷ []; stream = (tossed act made.stream).1 }

-- these events more, in turn
abbrev pub adds : List Act → Made → Made
adds [] made = made
adds (act ∷ acts) made = adds acts (add act made)

-- a drawn event more
unfoldable pub add_drawn : Size → Made → Made
add_drawn size made =
    add (drawn size made.stream).0 (record { events = made.events; stream = (drawn size made.stream).1 })

-- so many drawn events more
abbrev pub draws : Size → ℕ → Made → Made
draws size zero made = made
draws size (suc k) made = draws size k (add_drawn size made)

-- who takes part in a cluster of that size in which these members don't lie
abbrev pub cast_of : Size → List ℕ → Cast
cast_of size correct = record { size = size; liars = correct_below size.n correct; correct = correct }

-- an event of a fair network more, where so many of the line are left, and the network behind it
unfoldable pub add_fair : Cast → ℕ → Network → Made → Network × Made
add_fair cast left network made =
    let drawn = event cast left network made.stream in
    (drawn.0.1, add drawn.0.0 (record { events = made.events; stream = drawn.1 }))

-- so many events of a fair network more
abbrev pub fairs : Cast → ℕ → Network → Made → Made
fairs cast zero network made = made
fairs cast (suc k) network made = fairs cast k (add_fair cast (suc k) network made).0 (add_fair cast (suc k) network made).1

-- what there is behind a step, in a cluster of that size in which these members don't lie
abbrev pub after_step : Size → List ℕ → ScriptStep → Made → Made
after_step size correct (Once act) made = add act made
after_step size correct (Rounds k) made = adds (times k (round correct)) made
after_step size correct (Random k) made = draws size k made
after_step size correct (Fair left network) made = fairs (cast_of size correct) left network made

-- what there is behind these steps, in turn
abbrev pub after_steps : Size → List ℕ → List ScriptStep → Made → Made
after_steps size correct [] made = made
after_steps size correct (step ∷ steps) made = after_steps size correct steps (after_step size correct step made)

-- how many events a step stands for, where so many members don't lie
abbrev pub how_many : ℕ → ScriptStep → ℕ
how_many members (Once act) = 1
how_many members (Rounds k) = k * (members * members)
how_many members (Random k) = k
how_many members (Fair left network) = left

-- in how many turns, at most, a step's events are made
abbrev pub turns : ScriptStep → ℕ
turns (Once act) = 1
turns (Rounds k) = k
turns (Random k) = k
turns (Fair left network) = left

-- there are no more events than may be
abbrev pub AreFew : Made → Type 0
AreFew made = length made.events ≤ MOST_EVENTS

-- what there is now is what was to come, and there are no more events than may be
pub record Becomes (to now : Made) : Type 0 where
  pub there : now ≡ to
  pub few : AreFew to

-- what was to come has too many events
abbrev pub IsOver : Made → ScriptFault → Type 0
IsOver to fault = (MOST_EVENTS < length to.events) × (fault ≡ faults.Events)

-- the line says a step, and that leads from what there was to what there is
abbrev pub LeadsBy : Size → List ℕ → Made → ℕ × List ℕ → Made → Type 0
LeadsBy size correct before line after =
    (step : ScriptStep) × SaysStep (words_of line.1) step × Becomes (after_step size correct step before) after

-- each of the lines does, in turn
abbrev pub LeadTo : Size → List ℕ → Made → List (ℕ × List ℕ) → Made → Type 0
LeadTo size correct before [] after = before ≡ after
LeadTo size correct before (line ∷ lines) after =
    (next : Made) × LeadsBy size correct before line next × LeadTo size correct next lines after

-- the line says no step, or one with which there are too many events
abbrev pub BreaksAt : Size → List ℕ → Made → ℕ × List ℕ → ScriptFault → Type 0
BreaksAt size correct before line fault =
    (((step : ScriptStep) → SaysStep (words_of line.1) step → ⊥) × (fault ≡ faults.Line line.0))
    ⊎ ((step : ScriptStep) × SaysStep (words_of line.1) step × IsOver (after_step size correct step before) fault)

-- one of the lines does, and those before it lead there
abbrev pub BreakBy : Size → List ℕ → Made → List (ℕ × List ℕ) → ScriptFault → Type 0
BreakBy size correct before [] fault = ⊥
BreakBy size correct before (line ∷ lines) fault =
    BreaksAt size correct before line fault
    ⊎ ((next : Made) × LeadsBy size correct before line next × BreakBy size correct next lines fault)
