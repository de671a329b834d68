-- What happens in a cluster, as a script says it.
use Rattle.std.specs.Prelude.{ℕ, Bool, true, false, Option, Some, None, List}
use Rattle.disk.specs.declared.Pick.{Pick}
use Rattle.sim.specs.declared.events.Which.{Which}
use Rattle.sim.specs.declared.events.Event.{Event}
use Rattle.sim.specs.declared.events.Event.TheVariants as event

-- an event, but for its toss
pub data Act : Type 0 where
  Propose : (member : ℕ) → (question : ℕ) → (bit : Bool) → Act
  Deliver : (from : ℕ) → (to : ℕ) → (which : Which) → Act
  DeliverAll : (from : ℕ) → (to : ℕ) → (count : ℕ) → Act
  Lie : (liar : ℕ) → (to : ℕ) → (bytes : List ℕ) → Act
  Fuse : (member : ℕ) → (calls : Option ℕ) → Act
  Crash : (member : ℕ) → (pick : Pick) → Act
  Restart : (member : ℕ) → Act
  Reset : (from : ℕ) → (to : ℕ) → Act

-- an event: what happens, and the toss where it takes one
pub record TossedAct : Type 0 where
  pub act : Act
  pub toss : Option ℕ

-- what an event tells
abbrev pub tossed_act : Event → TossedAct
tossed_act (event.Propose member question bit toss) = record { act = Propose member question bit; toss = Some toss.0 }
tossed_act (event.Deliver from to which toss) = record { act = Deliver from to which; toss = Some toss.0 }
tossed_act (event.DeliverAll from to count toss) = record { act = DeliverAll from to count; toss = Some toss.0 }
tossed_act (event.LieBytes liar to bytes toss) = record { act = Lie liar to bytes.items; toss = Some toss.0 }
tossed_act (event.Fuse member calls) = record { act = Fuse member calls; toss = None }
tossed_act (event.Crash member pick) = record { act = Crash member pick; toss = None }
tossed_act (event.Restart member) = record { act = Restart member; toss = None }
tossed_act (event.Reset from to) = record { act = Reset from to; toss = None }

-- what an event tells, but for its toss
abbrev pub act_of : Event → Act
act_of event = (tossed_act event).act

-- whether an event takes a toss: a member may then say something
abbrev pub takes_toss : Act → Bool
takes_toss (Propose member question bit) = true
takes_toss (Deliver from to which) = true
takes_toss (DeliverAll from to count) = true
takes_toss (Lie liar to bytes) = true
takes_toss act = false
