-- Which runs of the world a script and its marks are.
use Rattle.std.specs.Prelude.{ℕ, ◌≡◌, ◌+◌, Bool, false, cond, ◌==◌, nat_lt, is_some, Option, Some, None, Result, Ok, Err, List, [], ◌∷◌, ◌++◌, length}
use Rattle.terms_prelude.specs.Terms.{Size, Statement, Record, is_none, Hearing, Proposal}
use Rattle.wire.specs.declared.message.Message.{Message}
use Rattle.wire.specs.Reading.{End, Rest, Broken, ReadsMessages}
use Rattle.rounds.specs.declared.tosses.Toss.{Toss}
use Rattle.world.specs.World.{World, Step, start, put}
use Rattle.world.specs.World.Step.{Crash as CrashStep}
use Rattle.sim.specs.declared.events.Event.{Event}
use Rattle.sim.specs.declared.events.Event.TheVariants.{Propose, Deliver, DeliverAll, LieBytes, Fuse, Crash, Restart, Reset}
use Rattle.sim.specs.declared.events.Which.{Which}
use Rattle.sim.specs.declared.events.Which.TheVariants.{Next, At}
use Rattle.sim.specs.declared.events.Mark.{Mark}
use Rattle.sim.specs.declared.events.Mark.TheVariants.{Done, Skipped}
use Rattle.sim.specs.declared.events.Reason.{Reason}
use Rattle.sim.specs.declared.events.Reason.TheVariants.{NoSuch, WrongSide, NotUp, Running, Nothing}
use Rattle.sim.specs.declared.tasks.Instruction.{Instruction}
use Rattle.sim.specs.declared.tasks.Instruction.TheVariants as task
use Rattle.sim.specs.Links.{statements_in}
use Rattle.sim.specs.Presences.{nth_said, group_from, hearings_from, Answers, AnswersGroup, AreLies, Reopens}

-- the world, and what the script alone tells of links and fuses
pub record Scene : Type 0 where
  pub world : World
  pub place : ℕ → ℕ → ℕ  -- sender, receiver: the number of the statement that the link delivers next
  pub fed : ℕ → ℕ → List ℕ  -- liar, receiver: the bytes that the link was fed since its start
  pub fused : ℕ → Bool  -- whether a fuse is in the member's disk

-- nothing has happened; these disks have a fuse in
abbrev pub opening : (ℕ → Bool) → Scene
opening fused = record { world = start; place = λ a b. 0; fed = λ a b. []; fused = fused }

-- one entry of a table by two numbers changed
abbrev pub put_at : {A : Type 0} → (ℕ → ℕ → A) → ℕ → ℕ → A → ℕ → ℕ → A
put_at table p q x a b = cond (b == q) (cond (a == p) x (table a b)) (table a b)

-- each link to the member as at its start
abbrev pub cleared : {A : Type 0} → (ℕ → ℕ → A) → ℕ → A → ℕ → ℕ → A
cleared table p x a b = cond (b == p) x (table a b)

-- for a correct member
abbrev pub for_correct : {A : Type 0} → Size → (ℕ → Bool) → ℕ → Result A Reason → Result A Reason
for_correct size liars p plan = cond (nat_lt p size.n) (cond (liars p) (Err WrongSide) plan) (Err NoSuch)

-- for a correct member that is up
abbrev pub for_running : {A : Type 0} → Size → (ℕ → Bool) → World → ℕ → Result A Reason → Result A Reason
for_running size liars w p plan = for_correct size liars p (cond (is_none (w.doubt p)) plan (Err NotUp))

-- for a correct member that is up, over the link from a correct member
abbrev pub for_link : {A : Type 0} → Size → (ℕ → Bool) → World → ℕ → ℕ → Result A Reason → Result A Reason
for_link size liars w from to plan =
    cond (nat_lt from size.n) (cond (nat_lt to size.n) (cond (liars from) (Err WrongSide) (cond (liars to) (Err WrongSide)
    (cond (is_none (w.doubt to)) plan (Err NotUp)))) (Err NoSuch)) (Err NoSuch)

-- a statement, if there is one, is delivered, and the link is then at that place
abbrev pub to_deliver : ℕ → ℕ → ℕ → Toss → Option Statement → Result (ℕ × Instruction) Reason
to_deliver from to place toss None = Err Nothing
to_deliver from to place toss (Some s) = Ok (to, task.Deliver from s place toss)

-- which of these records' statements a delivery is of, and the link's place then
abbrev pub delivery_of : List Record → ℕ → ℕ → ℕ → Which → Toss → Result (ℕ × Instruction) Reason
delivery_of records place from to Next toss = to_deliver from to (place + 1) toss (nth_said records place)
delivery_of records place from to (At number) toss = to_deliver from to place toss (nth_said records number)

-- the statements of a group of at most so many: those of the sender's from the link's place on
abbrev pub group_of : Scene → ℕ → ℕ → ℕ → List Statement
group_of c from to count = group_from (c.world.journal from) (c.place from to) count

-- these statements, if there are any, are delivered as a group of at most so many
abbrev pub to_group : ℕ → ℕ → ℕ → Toss → List Statement → Result (ℕ × Instruction) Reason
to_group from to count toss [] = Err Nothing
to_group from to count toss (s ∷ statements) = Ok (to, task.DeliverAll from count toss)

-- a liar's bytes for a correct member that is up
abbrev pub lie_plan : Size → (ℕ → Bool) → Scene → ℕ → ℕ → Toss → Result (ℕ × Instruction) Reason
lie_plan size liars c liar to toss =
    cond (nat_lt liar size.n) (cond (nat_lt to size.n) (cond (liars liar) (cond (liars to) (Err WrongSide)
    (cond (is_none (c.world.doubt to)) (Ok (to, task.Lie liar toss)) (Err NotUp))) (Err WrongSide)) (Err NoSuch)) (Err NoSuch)

-- the member and its task, or the first reason to skip the event; whether a liar's link is broken is seen later
abbrev pub plan_of : Size → (ℕ → Bool) → Scene → Event → Result (ℕ × Instruction) Reason
plan_of size liars c (Propose member question bit toss) =
    cond (nat_lt question size.questions) (for_running size liars c.world member (Ok (member, task.Propose question bit toss))) (Err NoSuch)
plan_of size liars c (Deliver from to which toss) =
    for_link size liars c.world from to (delivery_of (c.world.journal from) (c.place from to) from to which toss)
plan_of size liars c (DeliverAll from to count toss) = for_link size liars c.world from to (to_group from to count toss (group_of c from to count))
plan_of size liars c (LieBytes liar to bytes toss) = lie_plan size liars c liar to toss
plan_of size liars c (Fuse member calls) = for_correct size liars member (Ok (member, task.Fuse calls))
plan_of size liars c (Crash member pick) = for_correct size liars member (Ok (member, task.Crash pick))
plan_of size liars c (Restart member) =
    for_correct size liars member (cond (is_none (c.world.doubt member)) (Err Running) (Ok (member, task.Restart)))
plan_of size liars c (Reset from to) =
    cond (nat_lt from size.n) (cond (nat_lt to size.n) (Ok (to, task.Reset from)) (Err NoSuch)) (Err NoSuch)

-- A liar's bytes behind what its link has read so far. Broken, the link reads nothing; else each statement that the bytes
-- add to the reading of all bytes is said and heard.
abbrev pub HearsLies : Size → Scene → ℕ → ℕ → List ℕ → ℕ → List Message → End → Mark → List Step → Type 0
HearsLies size c p liar bytes toss messages (Broken fault) mark steps = (mark ≡ Skipped Nothing) × (steps ≡ [])
HearsLies size c p liar bytes toss messages (Rest rest) mark steps =
    (more : List Message) × (end : End) × ReadsMessages size (c.fed liar p ++ bytes) (messages ++ more) end
    × AreLies size p c.world (c.fused p) liar toss (statements_in more) mark steps

-- these steps are the member's task with that mark; the bytes are a liar's
abbrev pub Does : Size → Scene → ℕ → Instruction → List ℕ → Mark → List Step → Type 0
Does size c p (task.Propose question bit toss) bytes mark steps = Answers size p c.world (c.fused p) toss.0 (Proposal question bit) mark steps
Does size c p (task.Deliver from s place toss) bytes mark steps = Answers size p c.world (c.fused p) toss.0 (Hearing from s) mark steps
Does size c p (task.DeliverAll from count toss) bytes mark steps =
    AnswersGroup size p c.world (c.fused p) (hearings_from from toss.0 (group_of c from p count)) mark steps
Does size c p (task.Lie liar toss) bytes mark steps =
    (messages : List Message) × (end : End) × ReadsMessages size (c.fed liar p) messages end
    × HearsLies size c p liar bytes toss.0 messages end mark steps
Does size c p (task.Fuse calls) bytes mark steps = (mark ≡ Done) × (steps ≡ [])
Does size c p (task.Crash pick) bytes mark steps = (mark ≡ Done) × (steps ≡ CrashStep p ∷ [])
Does size c p task.Restart bytes mark steps = Reopens p (c.fused p) mark steps
Does size c p (task.Reset from) bytes mark steps = (mark ≡ Done) × (steps ≡ [])

-- what a task that wasn't skipped leaves, over the world that its steps leave
abbrev pub moved : Scene → ℕ → Instruction → List ℕ → Mark → World → Scene
moved c p (task.Deliver from s place toss) bytes mark w = record c { world = w; place = put_at c.place from p place }
moved c p (task.DeliverAll from count toss) bytes mark w =
    record c { world = w; place = put_at c.place from p (c.place from p + length (group_of c from p count)) }
moved c p (task.Lie liar toss) bytes mark w = record c { world = w; fed = put_at c.fed liar p (c.fed liar p ++ bytes) }
moved c p (task.Fuse calls) bytes mark w = record c { world = w; fused = put c.fused p (is_some calls) }
moved c p (task.Crash pick) bytes mark w = record c { world = w; fused = put c.fused p false }
moved c p task.Restart bytes Done w = record c { world = w; place = cleared c.place p 0; fed = cleared c.fed p [] }
moved c p (task.Reset from) bytes mark w = record c { world = w; place = put_at c.place from p 0; fed = put_at c.fed from p [] }
moved c p told bytes mark w = record c { world = w }

-- a skipped event changes nothing
abbrev pub scene_after : Scene → ℕ → Instruction → List ℕ → Mark → World → Scene
scene_after c p told bytes (Skipped reason) w = c
scene_after c p told bytes mark w = moved c p told bytes mark w

-- the bytes that a liar's event brings
abbrev pub bytes_in : Event → List ℕ
bytes_in (LieBytes liar to bytes toss) = bytes.items
bytes_in event = []
