-- What a post has of the scene, and what a task does to it.
use Rattle.std.specs.Prelude.{ℕ, ◌≡◌, ◌<◌, ◌+◌, Bool, true, false, Option, Some, None, List, [], length, get_or}
use Rattle.std.specs.List.{AllByRecursion}
use Rattle.terms_prelude.specs.Terms.{Size, Record, Statement, Header, IsWellFormed}
use Rattle.wire.specs.declared.message.Message.{Message}
use Rattle.wire.specs.Reading.{Rest, ReadsMessages}
use Rattle.world.specs.World.{Step, IsRun, has_sent, start, after_all}
use Rattle.sim.specs.declared.events.Mark.{Mark}
use Rattle.sim.specs.declared.links.Link.{Link}
use Rattle.sim.specs.declared.posts.Delivery.{Delivery}
use Rattle.sim.specs.declared.posts.Post.{Post}
use Rattle.sim.specs.declared.tasks.Instruction.{Instruction}
use Rattle.sim.specs.declared.tasks.Instruction.TheVariants as task
use Rattle.sim.specs.declared.faults.SimFault.{SimFault}
use Rattle.sim.specs.declared.faults.SimFault.TheVariants as faults
use Rattle.disk.specs.declared.memory.MemDisk.{MemDisk}
use Rattle.sim.specs.Presences.{IsOneSound, IsPresenceAt, IsFreshPresence, HasDiskFuse, HasCrashed, is_liar, mine}
use Rattle.sim.specs.Scene.{Scene, Does, group_of, scene_after}

-- the link is at that place, and has read those bytes; one from a correct member holds no part of a frame
pub record IsLink (size : Size) (liar : Bool) (place : ℕ) (fed : List ℕ) (link : Link) : Type 0 where
  pub place_is : link.place ≡ place
  pub size_is : link.size ≡ size
  pub messages : List Message
  pub read : ReadsMessages size fed messages link.end
  pub whole : liar ≡ false → link.end ≡ Rest []

-- the link is at its start
pub record IsNewLink (size : Size) (link : Link) : Type 0 where
  pub place_is : link.place ≡ 0
  pub size_is : link.size ≡ size
  pub end_is : link.end ≡ Rest []

-- the post is what the scene has of that number
pub record IsPost (size : Size) (liars : ℕ → Bool) (c : Scene) (p : ℕ) (post : Post) : Type 0 where
  pub header : post.header ≡ mine size p
  pub side : is_liar post.presence ≡ liars p
  pub at : liars p ≡ false → IsPresenceAt (mine size p) c.world post.presence
  pub fused : liars p ≡ false → post.fused ≡ c.fused p
  pub links : (a : ℕ) (d : Link) → a < size.n → IsLink size (liars a) (c.place a p) (c.fed a p) (get_or post.incoming.items a d)

-- its calls may be made
pub record IsReady (post : Post) : Type 0 where
  pub sound : IsOneSound post.presence
  pub wide : length post.incoming.items ≡ post.header.size.n

-- the sender that a task names is a member
abbrev pub HasSender : ℕ → Instruction → Type 0
HasSender n (task.Deliver from s place toss) = from < n
HasSender n (task.DeliverAll from count toss) = from < n
HasSender n (task.Lie liar toss) = liar < n
HasSender n (task.Reset from) = from < n
HasSender n told = Unit {0}

-- a member is correct and up
abbrev pub Runs : (ℕ → Bool) → Scene → ℕ → Type 0
Runs liars c p = (liars p ≡ false) × (c.world.doubt p ≡ None)

-- the statements were sent by that member, and are well formed
abbrev pub AreSaid : Size → Scene → ℕ → List Statement → Type 0
AreSaid size c from statements = AllByRecursion (λ s. (has_sent c.world.sent from s ≡ true) × IsWellFormed size s) statements

-- the task may be carried out at that number
abbrev pub CanBeDone : Size → (ℕ → Bool) → Scene → ℕ → Instruction → Type 0
CanBeDone size liars c p (task.Propose question bit toss) = Runs liars c p
CanBeDone size liars c p (task.Deliver from s place toss) =
    Runs liars c p × (liars from ≡ false) × (from < size.n) × (has_sent c.world.sent from s ≡ true) × IsWellFormed size s
CanBeDone size liars c p (task.DeliverAll from count toss) =
    Runs liars c p × (liars from ≡ false) × (from < size.n) × AreSaid size c from (group_of c from p count)
CanBeDone size liars c p (task.Lie liar toss) = Runs liars c p × (liars liar ≡ true) × (liar < size.n)
CanBeDone size liars c p (task.Fuse calls) = liars p ≡ false
CanBeDone size liars c p (task.Crash pick) = liars p ≡ false
CanBeDone size liars c p task.Restart = (liars p ≡ false) × ((batch : List Record) × (c.world.doubt p ≡ Some batch))
CanBeDone size liars c p (task.Reset from) = from < size.n

-- the group is what the task at that number brings, with the link's place behind it
abbrev pub IsGroupFor : Scene → ℕ → Instruction → Delivery → Type 0
IsGroupFor c p (task.DeliverAll from count toss) group =
    (group.statements.items ≡ group_of c from p count) × (group.place ≡ c.place from p + length (group_of c from p count))
IsGroupFor c p told group = Unit {0}

-- the task with that mark is some steps of the world, after which the post is what the scene has of its number
pub record IsDone (size : Size) (liars : ℕ → Bool) (c : Scene) (p : ℕ) (told : Instruction) (bytes : List ℕ) (mark : Mark) (post : Post) : Type 0 where
  pub steps : List Step
  pub does : Does size c p told bytes mark steps
  pub is_run : IsRun size liars c.world steps
  pub at : IsPost size liars (scene_after c p told bytes mark (after_all c.world steps)) p post

-- the posts are what the scene has
abbrev pub IsCluster : Size → (ℕ → Bool) → Scene → List Post → Type 0
IsCluster size liars c posts = (p : ℕ) (d : Post) → p < size.n → IsPost size liars c p (get_or posts p d)

-- there is one post for each number, and calls of each may be made
pub record IsOneReady (size : Size) (post : Post) : Type 0 where
  pub ready : IsReady post
  pub size_is : post.header.size ≡ size

pub record AreReady (size : Size) (posts : List Post) : Type 0 where
  pub count : length posts ≡ size.n
  pub each : (p : ℕ) (d : Post) → p < size.n → IsOneReady size (get_or posts p d)

-- what the task of setting a fuse, or of a crash, does to the member's disk
abbrev pub DoesToDisk : Instruction → Option MemDisk → Option MemDisk → Type 0
DoesToDisk (task.Fuse calls) old new = HasDiskFuse calls old new
DoesToDisk (task.Crash pick) old new = HasCrashed pick old new
DoesToDisk told old new = Unit {0}

-- a fault that a task may end with, whatever the posts are
abbrev pub IsOfRun : SimFault → Type 0
IsOfRun faults.BadLiars = ⊥
IsOfRun faults.BadDisks = ⊥
IsOfRun faults.Device = ⊥
IsOfRun faults.Memory = Unit {0}
IsOfRun faults.Full = Unit {0}

-- a fault of what comes before the first event
abbrev pub IsOfOpening : SimFault → Type 0
IsOfOpening faults.BadLiars = ⊥
IsOfOpening faults.BadDisks = ⊥
IsOfOpening faults.Device = Unit {0}
IsOfOpening faults.Memory = Unit {0}
IsOfOpening faults.Full = ⊥

-- a post whose journal, if it is a correct member's, was created and not opened yet
pub record IsCreated (header : Header) (liar : Bool) (fused : Bool) (post : Post) : Type 0 where
  pub header_is : post.header ≡ header
  pub side : is_liar post.presence ≡ liar
  pub fresh : liar ≡ false → IsFreshPresence header post.presence
  pub fused_is : post.fused ≡ fused
  pub links : (a : ℕ) (d : Link) → a < header.size.n → IsNewLink header.size (get_or post.incoming.items a d)

-- and then opened
pub record IsOpenedPost (header : Header) (liar : Bool) (fused : Bool) (post : Post) : Type 0 where
  pub header_is : post.header ≡ header
  pub side : is_liar post.presence ≡ liar
  pub at : liar ≡ false → IsPresenceAt header start post.presence
  pub fused_is : post.fused ≡ fused
  pub links : (a : ℕ) (d : Link) → a < header.size.n → IsNewLink header.size (get_or post.incoming.items a d)

-- the first opening of a post
pub record OpensPost (old new : Post) : Type 0 where
  pub ready : IsReady new
  pub header : new.header ≡ old.header
  pub opened : (liar fused : Bool) → IsCreated old.header liar fused old → IsOpenedPost old.header liar fused new
