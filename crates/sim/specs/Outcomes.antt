-- What a simulation begins with, and what it ends with.
use Rattle.std.specs.Prelude.{ℕ, zero, suc, ◌≡◌, ◌<◌, ◌≤◌, ◌+◌, Bool, true, false, cond, is_some, nat_eq, Option, Some, None, List, [], ◌∷◌, ◌++◌, length}
use Rattle.std.specs.List.{AllByRecursion, Contains, list_any}
use Rattle.std.specs.Global.{Vec}
use Rattle.terms_prelude.specs.Terms.{Size, Record, decided}
use Rattle.disk.specs.declared.memory.MemDisk.{MemDisk}
use Rattle.disk.specs.Memory.{fuse_left, memory_state}
use Rattle.world.specs.World.{World, Step, IsRun, start, after_all}
use Rattle.sim.specs.declared.events.Event.{Event}
use Rattle.sim.specs.declared.events.Event.TheVariants.{Propose}
use Rattle.sim.specs.declared.events.Mark.{Mark}
use Rattle.sim.specs.declared.events.Mark.TheVariants.{Skipped}
use Rattle.sim.specs.Scene.{Scene, opening}
use Rattle.sim.specs.Runs.{IsRunOf}

-- whether the number is among these
abbrev pub among : List ℕ → ℕ → Bool
among numbers a = list_any (λ x. nat_eq x a) numbers

-- each is at least this number, above those before it, and below n
abbrev pub RiseFrom : ℕ → ℕ → List ℕ → Type 0
RiseFrom least n [] = Unit {0}
RiseFrom least n (x ∷ xs) = (least ≤ x) × (x < n) × RiseFrom (x + 1) n xs

-- at most t different members, upwards
abbrev pub AreLiars : Size → List ℕ → Type 0
AreLiars size liars = RiseFrom 0 size.n liars × (length liars ≤ size.t)

-- nothing is in its file
abbrev pub IsEmptyDisk : MemDisk → Type 0
IsEmptyDisk disk = length (memory_state disk).seen ≡ 0

-- an empty disk for each member
abbrev pub AreDisks : Size → List MemDisk → Type 0
AreDisks size disks = (length disks ≡ size.n) × AllByRecursion IsEmptyDisk disks

-- whether a fuse is in the disk of that number
abbrev pub fused_in : List MemDisk → ℕ → Bool
fused_in [] p = false
fused_in (disk ∷ disks) zero = is_some (fuse_left disk)
fused_in (disk ∷ disks) (suc p) = fused_in disks p

-- a correct member has a disk with a fuse in
abbrev pub HasFuse : List ℕ → List MemDisk → Type 0
HasFuse liars disks = (p : ℕ) × (p < length disks) × (among liars p ≡ false) × (fused_in disks p ≡ true)

-- a verdict: the member, the question, the round and the bit
abbrev pub Verdict : Type 0
Verdict = ℕ × ℕ × ℕ × Bool

-- the member's decision, if there is one, as a verdict
abbrev pub verdict_in : ℕ → ℕ → Option (ℕ × Bool) → List Verdict
verdict_in p question None = []
verdict_in p question (Some decision) = (p, question, decision.0, decision.1) ∷ []

-- the member's first decision of each question below a number, by question
abbrev pub verdicts_below : ℕ → ℕ → List Record → List Verdict
verdicts_below zero p records = []
verdicts_below (suc question) p records = verdicts_below question p records ++ verdict_in p question (decided records question)

-- what the correct members below a number have decided, by member
abbrev pub verdicts_of_below : ℕ → ℕ → (ℕ → Bool) → World → List Verdict
verdicts_of_below zero questions liars w = []
verdicts_of_below (suc p) questions liars w =
    verdicts_of_below p questions liars w ++ cond (liars p) [] (verdicts_below questions p (w.journal p))

-- what all correct members have decided, by member and then by question
abbrev pub verdicts_of : Size → (ℕ → Bool) → World → List Verdict
verdicts_of size liars w = verdicts_of_below size.n size.questions liars w

-- The script with these marks and what was saved is a run of the world from its start, and the verdicts are those of the
-- world after it.
pub record IsSimulation (size : Size) (liars : ℕ → Bool) (fused : ℕ → Bool) (script : List Event) (marks : List Mark) (saved : List (Vec Record)) (verdicts : List Verdict) : Type 0 where
  pub steps : List Step
  pub last : Scene
  pub run : IsRunOf size liars (opening fused) script marks saved steps last
  pub world_is : last.world ≡ after_all start steps
  pub is_run : IsRun size liars start steps
  pub verdicts_are : verdicts ≡ verdicts_of size liars last.world

-- two verdicts of one question have one bit
abbrev pub HaveOneBit : List Verdict → Type 0
HaveOneBit verdicts = (a b question round later : ℕ) (v u : Bool)
    → Contains verdicts (a, question, round, v) → Contains verdicts (b, question, later, u) → v ≡ u

-- if the event is a proposal of the question, it is of this bit
abbrev pub ProposesOnly : ℕ → Bool → Event → Type 0
ProposesOnly question v (Propose member of bit toss) = of ≡ question → bit ≡ v
ProposesOnly question v event = Unit {0}

-- so it is, where the event wasn't skipped
abbrev pub ProposedOnly : ℕ → Bool → Event → Mark → Type 0
ProposedOnly question v event (Skipped reason) = Unit {0}
ProposedOnly question v event mark = ProposesOnly question v event

-- each proposal of the question that wasn't skipped is of this bit
abbrev pub AllProposedOnly : ℕ → Bool → List Event → List Mark → Type 0
AllProposedOnly question v [] marks = Unit {0}
AllProposedOnly question v (event ∷ events) [] = Unit {0}
AllProposedOnly question v (event ∷ events) (mark ∷ marks) =
    ProposedOnly question v event mark × AllProposedOnly question v events marks

-- where all proposals of a question that weren't skipped are of one bit, so is each verdict of it
abbrev pub AreUnanimous : List Event → List Mark → List Verdict → Type 0
AreUnanimous script marks verdicts = (question : ℕ) (v : Bool) → AllProposedOnly question v script marks
    → (a round : ℕ) (u : Bool) → Contains verdicts (a, question, round, u) → u ≡ v
