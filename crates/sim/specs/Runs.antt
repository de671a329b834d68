-- A script and its marks as a run of the world.
use Rattle.std.specs.Prelude.{ℕ, ◌≡◌, Bool, true, Result, Ok, Err, List, [], ◌∷◌, ◌++◌}
use Rattle.std.specs.Global.{Vec}
use Rattle.terms_prelude.specs.Terms.{Size, Statement, Record, has_said, IsWellFormed}
use Rattle.world.specs.World.{Step, IsCorrect, IsRun, has_sent, after_all}
use Rattle.sim.specs.declared.events.Event.{Event}
use Rattle.sim.specs.declared.events.Mark.{Mark}
use Rattle.sim.specs.declared.events.Mark.TheVariants.{Skipped}
use Rattle.sim.specs.declared.events.Reason.{Reason}
use Rattle.sim.specs.declared.posts.Post.{Post}
use Rattle.sim.specs.declared.tasks.Instruction.{Instruction}
use Rattle.sim.specs.Presences.{MayCome}
use Rattle.sim.specs.Scene.{Scene, plan_of, Does, scene_after, bytes_in}
use Rattle.sim.specs.Posts.{IsCluster}

-- what a plan did, the scene that it leaves, and the records that stand there behind those that its member had saved
abbrev pub IsPlanned : Size → Scene → Result (ℕ × Instruction) Reason → List ℕ → Mark → List Record → List Step → Scene → Type 0
IsPlanned size c (Ok to) bytes mark saved steps next =
    Does size c to.0 to.1 bytes mark steps × (next ≡ scene_after c to.0 to.1 bytes mark (after_all c.world steps))
    × (next.world.journal to.0 ≡ c.world.journal to.0 ++ saved)
IsPlanned size c (Err reason) bytes mark saved steps next = (mark ≡ Skipped reason) × (saved ≡ []) × (steps ≡ []) × (next ≡ c)

-- these steps are the event with that mark, its member comes to save these records, and then the scene is this one
abbrev pub IsEvent : Size → (ℕ → Bool) → Scene → Event → Mark → List Record → List Step → Scene → Type 0
IsEvent size liars c event mark saved steps next = IsPlanned size c (plan_of size liars c event) (bytes_in event) mark saved steps next

-- these steps are the script with these marks and what was saved, event by event, and then the scene is the last one
abbrev pub IsRunOf : Size → (ℕ → Bool) → Scene → List Event → List Mark → List (Vec Record) → List Step → Scene → Type 0
IsRunOf size liars c [] [] [] steps last = (steps ≡ []) × (last ≡ c)
IsRunOf size liars c (event ∷ events) (mark ∷ marks) (saved ∷ more) steps last =
    (first : List Step) × (others : List Step) × (next : Scene)
    × (steps ≡ first ++ others) × IsEvent size liars c event mark saved.items first next × IsRunOf size liars next events marks more others last
-- each event has its mark and its records
IsRunOf size liars c events marks saved steps last = ⊥

-- the world may come; what correct members saved was sent, and all that was sent is well formed
pub record IsSteady (size : Size) (liars : ℕ → Bool) (c : Scene) : Type 0 where
  pub may : MayCome size liars c.world
  pub said : (p : ℕ) (s : Statement) → IsCorrect size liars p → has_said (c.world.journal p) s ≡ true → has_sent c.world.sent p s ≡ true
  pub formed : (p : ℕ) (s : Statement) → has_sent c.world.sent p s ≡ true → IsWellFormed size s

-- the event is some steps of the world, after which the posts are what the scene has
pub record IsTurn (size : Size) (liars : ℕ → Bool) (c : Scene) (event : Event) (mark : Mark) (saved : List Record) (posts : List Post) : Type 0 where
  pub steps : List Step
  pub next : Scene
  pub is : IsEvent size liars c event mark saved steps next
  pub world_is : next.world ≡ after_all c.world steps
  pub is_run : IsRun size liars c.world steps
  pub at : IsCluster size liars next posts

-- the script with these marks and what was saved is a run of the world, after which the posts are what the last scene has
pub record IsFollowed (size : Size) (liars : ℕ → Bool) (c : Scene) (script : List Event) (marks : List Mark) (saved : List (Vec Record)) (posts : List Post) : Type 0 where
  pub steps : List Step
  pub last : Scene
  pub run : IsRunOf size liars c script marks saved steps last
  pub world_is : last.world ≡ after_all c.world steps
  pub is_run : IsRun size liars c.world steps
  pub at : IsCluster size liars last posts
