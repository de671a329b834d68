-- Where a member is, and what it does in the world.
use Rattle.std.specs.Prelude.{ℕ, zero, suc, ◌≡◌, Bool, true, false, not, Option, Some, None, Result, Ok, Err, List, [], ◌∷◌, ◌++◌, drop, map, min, take}
use Rattle.std.specs.Global.{Vec}
use Rattle.terms_prelude.specs.Terms.{Size, Statement, Record, Said, Decided, Header, new_header, Reply, records_of, records_of_all, without_tosses, Hearing}
use Rattle.terms.specs.Reply.{Event as Happening}
use Rattle.disk.specs.declared.memory.MemDisk.{MemDisk}
use Rattle.disk.specs.declared.crash.Pick.{Pick}
use Rattle.disk.specs.Model.{at_rest}
use Rattle.disk.specs.Crash.{left}
use Rattle.disk.specs.Memory.{memory_state, fuse_left, with_fuse}
use Rattle.world.specs.World.{World, Step, IsRun, start, after, after_all}
use Rattle.world.specs.World.Step.{Lie, Hears, Restart as RestartStep}
use Rattle.member.specs.declared.fault.MemberFault.{MemberFault}
use Rattle.member.specs.declared.fault.MemberFault.TheVariants.{Stopped, Device, Memory, JournalFull, NoSuchQuestion, NoSuchMember}
use Rattle.member.specs.Readers.{member_disk, member_saved, member_is_stopped}
use Rattle.member.specs.Sound.{IsSound}
use Rattle.member.specs.Memory.{memory_disk}
use Rattle.member.specs.Stands.{IsLeft}
use Rattle.member.specs.Life.{MemberIsAt, IsReached, Replies, world_step}
use Rattle.member.specs.Groups.{AllReply}
use Rattle.sim.specs.declared.events.Mark.{Mark}
use Rattle.sim.specs.declared.events.Mark.TheVariants.{Done, Failed, Skipped}
use Rattle.sim.specs.declared.presence.Presence.{Presence}
use Rattle.sim.specs.declared.presence.Presence.TheVariants.{Here, Down, Liar}

-- the header of a member's journal: the cluster has the number 0
abbrev pub mine : Size → ℕ → Header
mine size p = new_header 0 size p

-- its calls may be made
abbrev pub IsOneSound : Presence → Type 0
IsOneSound (Here m) = IsSound memory_disk m
IsOneSound (Down disk records) = Unit {0}
IsOneSound Liar = Unit {0}

abbrev pub is_liar : Presence → Bool
is_liar (Here m) = false
is_liar (Down disk records) = false
is_liar Liar = true

-- its member runs
abbrev pub is_up : Presence → Bool
is_up (Here m) = not (member_is_stopped m)
is_up (Down disk records) = false
is_up Liar = false

-- its member's disk
abbrev pub disk_in : Presence → Option MemDisk
disk_in (Here m) = Some (member_disk m)
disk_in (Down disk records) = Some disk
disk_in Liar = None

-- the next calls of the disk pass, as many as this, and nothing else of it is changed
abbrev pub HasDiskFuse : Option ℕ → Option MemDisk → Option MemDisk → Type 0
HasDiskFuse calls (Some old) new = new ≡ Some (with_fuse old calls)
HasDiskFuse calls None new = new ≡ None

-- the disk has the file that the pick names, and no fuse
abbrev pub HasCrashed : Pick → Option MemDisk → Option MemDisk → Type 0
HasCrashed pick (Some old) (Some new) = (memory_state new ≡ at_rest (left (memory_state old) pick)) × (fuse_left new ≡ None)
HasCrashed pick (Some old) None = ⊥
HasCrashed pick None new = new ≡ None

-- what its member has saved
abbrev pub saved_in : Presence → List Record
saved_in (Here m) = member_saved m
saved_in (Down disk records) = records.items
saved_in Liar = []

-- the statement of that number, decisions not counted
abbrev pub nth_said : List Record → ℕ → Option Statement
nth_said [] number = None
nth_said (Said s ∷ records) zero = Some s
nth_said (Said s ∷ records) (suc number) = nth_said records number
nth_said (Decided question round bit ∷ records) number = nth_said records number

-- the statements among the records, in order
abbrev pub all_said : List Record → List Statement
all_said [] = []
all_said (Said s ∷ records) = s ∷ all_said records
all_said (Decided question round bit ∷ records) = all_said records

-- those from that number on: at most so many, and at most 256
abbrev pub group_from : List Record → ℕ → ℕ → List Statement
group_from records number count = take (min count 256) (drop number (all_said records))

-- a disk and records are what the world has of a member that is down: a batch is in doubt, perhaps an empty one, and a
-- crash may keep it or lose it
pub record IsDown (header : Header) (w : World) (disk : MemDisk) (records : List Record) : Type 0 where
  pub batch : List Record
  pub doubt : w.doubt header.me ≡ Some batch
  pub saved : records ≡ w.journal header.me
  pub left : IsLeft (memory_state disk) header (w.journal header.me) (w.doubt header.me)

-- the presence is what the world has of the correct member of that header
abbrev pub IsPresenceAt : Header → World → Presence → Type 0
IsPresenceAt header w (Here m) = MemberIsAt memory_disk header w m
IsPresenceAt header w (Down disk records) = IsDown header w disk records.items
IsPresenceAt header w Liar = ⊥

-- its journal was created, and nothing was saved
abbrev pub IsFreshPresence : Header → Presence → Type 0
IsFreshPresence header (Here m) = ⊥
IsFreshPresence header (Down disk records) = IsLeft (memory_state disk) header [] None
IsFreshPresence header Liar = ⊥

-- the disk and the records of a member, as the world has them, whether it is up or down
abbrev pub AreParts : Header → World → Option (MemDisk × Vec Record) → Type 0
AreParts header w None = ⊥
AreParts header w (Some parts) =
    (parts.1.items ≡ w.journal header.me)
    × IsLeft (memory_state parts.0) header (w.journal header.me) (w.doubt header.me)

-- the disk among the parts
abbrev pub disk_among : Option (MemDisk × Vec Record) → Option MemDisk
disk_among None = None
disk_among (Some parts) = Some parts.0

-- the disk of a journal that was created, on which nothing was saved
abbrev pub AreFreshRecords : Header → Option (MemDisk × Vec Record) → Type 0
AreFreshRecords header None = ⊥
AreFreshRecords header (Some parts) = IsLeft (memory_state parts.0) header [] None

-- what becomes of an event that a member answered so: it failed only where a fuse is in its disk
abbrev pub IsMarkOf : {A : Type 0} → Bool → Result A MemberFault → Mark → Type 0
IsMarkOf fused (Ok answer) mark = mark ≡ Done
IsMarkOf fused (Err Device) mark = (fused ≡ true) × (mark ≡ Failed)
IsMarkOf fused (Err Stopped) mark = ⊥
IsMarkOf fused (Err Memory) mark = ⊥
IsMarkOf fused (Err JournalFull) mark = ⊥
IsMarkOf fused (Err NoSuchQuestion) mark = ⊥
IsMarkOf fused (Err NoSuchMember) mark = ⊥

-- The step is that event at the member, with all records of the definitions' reply for the member and the toss.
pub record IsEventStep (size : Size) (p : ℕ) (w : World) (toss : ℕ) (event : Happening) (kept : Bool) (steps : List Step) : Type 0 where
  pub reply : Reply
  pub replies : Replies (mine size p) w toss event reply
  pub is : steps ≡ world_step p event (records_of reply) kept ∷ []

-- the world may come: some run of the cluster, in which few enough lie, leaves it
pub record MayCome (size : Size) (liars : ℕ → Bool) (w : World) : Type 0 where
  pub steps : List Step
  pub reached : IsReached size liars steps
  pub world_is : w ≡ after_all start steps

-- the steps of an event at a member with that mark: kept, or, where it failed, a fuse is in and the batch is in doubt
abbrev pub Answers : Size → ℕ → World → Bool → ℕ → Happening → Mark → List Step → Type 0
Answers size p w fused toss event Done steps = IsEventStep size p w toss event true steps
Answers size p w fused toss event Failed steps = (fused ≡ true) × IsEventStep size p w toss event false steps
Answers size p w fused toss event (Skipped reason) steps = ⊥

-- The step is one event at the member that hears all of these, with all records of the definitions' replies to one after
-- another.
pub record IsGroupStep (size : Size) (p : ℕ) (w : World) (hearings : List (ℕ × Statement × ℕ)) (kept : Bool) (steps : List Step) : Type 0 where
  pub replies : List Reply
  pub all_reply : AllReply (mine size p) w hearings replies
  pub is : steps ≡ Hears p (without_tosses hearings) (records_of_all replies) kept ∷ []

-- the steps of a group at a member with that mark: kept, or, where it failed, a fuse is in and the batch is in doubt
abbrev pub AnswersGroup : Size → ℕ → World → Bool → List (ℕ × Statement × ℕ) → Mark → List Step → Type 0
AnswersGroup size p w fused hearings Done steps = IsGroupStep size p w hearings true steps
AnswersGroup size p w fused hearings Failed steps = (fused ≡ true) × IsGroupStep size p w hearings false steps
AnswersGroup size p w fused hearings (Skipped reason) steps = ⊥

-- statements of one sender, each with the same toss
abbrev pub hearings_from : ℕ → ℕ → List Statement → List (ℕ × Statement × ℕ)
hearings_from from toss statements = map (λ s. (from, s, toss)) statements

-- after one statement of several: the others where it was done, nothing more where it failed
abbrev pub GoesOn : Mark → (List Step → Type 0) → Mark → List Step → Type 0
GoesOn Done Others mark steps = Others steps
GoesOn Failed Others mark steps = (mark ≡ Failed) × (steps ≡ [])
GoesOn (Skipped reason) Others mark steps = ⊥

-- for each statement in turn the liar says it and the member hears it, until the member's disk fails
abbrev pub AreLies : Size → ℕ → World → Bool → ℕ → ℕ → List Statement → Mark → List Step → Type 0
AreLies size p w fused liar toss [] mark steps = (mark ≡ Done) × (steps ≡ [])
AreLies size p w fused liar toss (s ∷ statements) mark steps =
    (one : Mark) × (heard : List Step) × (others : List Step)
    × (steps ≡ Lie liar s ∷ (heard ++ others))
    × Answers size p (after w (Lie liar s)) fused toss (Hearing liar s) one heard
    × GoesOn one (λ more. AreLies size p (after_all w (Lie liar s ∷ heard)) fused liar toss statements mark more) mark others

-- an opening again: a restart, or nothing where the disk failed by its fuse
abbrev pub Reopens : ℕ → Bool → Mark → List Step → Type 0
Reopens p fused Done steps = (kept : Bool) × (steps ≡ RestartStep p kept ∷ [])
Reopens p fused Failed steps = (fused ≡ true) × (steps ≡ [])
Reopens p fused (Skipped reason) steps = ⊥

-- These steps may happen now, they are what the mark says, and then the presence is what the world has of the member.
pub record IsMove (size : Size) (liars : ℕ → Bool) (p : ℕ) (w : World) (Is : List Step → Type 0) (presence : Presence) : Type 0 where
  pub steps : List Step
  pub is : Is steps
  pub is_run : IsRun size liars w steps
  pub at : IsPresenceAt (mine size p) (after_all w steps) presence

-- after the first opening the presence is what the world has at its start; it failed only where a fuse is in the disk
abbrev pub IsBegun : Header → Bool → Mark → Presence → Type 0
IsBegun header fused Done presence = IsPresenceAt header start presence
IsBegun header fused Failed presence = fused ≡ true
IsBegun header fused (Skipped reason) presence = ⊥
