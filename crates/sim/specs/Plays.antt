-- What is played on a cluster.
use Rattle.std.specs.Prelude.{ℕ, ◌≡◌, ◌≤◌, Bool, Option, Some, None, List, [], ◌∷◌, ◌++◌, drop, slice_get}
use Rattle.std.specs.Global.{Vec}
use Rattle.terms_prelude.specs.Terms.{Size, Record, IsSize, count_below}
use Rattle.sim.specs.declared.events.Event.{Event}
use Rattle.sim.specs.declared.events.Mark.{Mark}
use Rattle.sim.specs.declared.posts.Post.{Post}
use Rattle.sim.specs.Presences.{saved_in}
use Rattle.sim.specs.Scene.{opening}
use Rattle.sim.specs.Runs.{IsFollowed}

-- a cluster: its size, its posts, and of the last event the member that it was for and how many records that had before
pub record ClusterFields : Type 0 where
  pub size : Size
  pub posts : List Post
  pub last : Option (ℕ × ℕ)

-- what the post, if it is there, has saved behind its first so many records
abbrev pub saved_behind : Option Post → ℕ → List Record
saved_behind None before = []
saved_behind (Some post) before = drop before (saved_in post.presence)

-- what the member of the last event has saved behind what it had before
abbrev pub saved_among : List Post → Option (ℕ × ℕ) → List Record
saved_among posts None = []
saved_among posts (Some last) = saved_behind (slice_get posts last.0) last.1

-- what the last event saved
unfoldable pub last_saved : ClusterFields → List Record
last_saved cluster = saved_among cluster.posts cluster.last

-- whose cluster it is, in which disks a fuse was, and what was played on it: the events with their marks, and what each saved
pub record Played : Type 0 where
  pub size : Size
  pub liars : ℕ → Bool
  pub fused : ℕ → Bool
  pub script : List Event
  pub marks : List Mark
  pub saved : List (Vec Record)

-- these events, with these marks and records
abbrev pub played : Size → (ℕ → Bool) → (ℕ → Bool) → List Event → List Mark → List (Vec Record) → Played
played size liars fused script marks saved =
    record { size = size; liars = liars; fused = fused; script = script; marks = marks; saved = saved }

-- nothing yet
abbrev pub unplayed : Size → (ℕ → Bool) → (ℕ → Bool) → Played
unplayed size liars fused = played size liars fused [] [] []

-- one event more
abbrev pub and_then : Played → Event → Mark → Vec Record → Played
and_then past event mark saved =
    played past.size past.liars past.fused (past.script ++ event ∷ []) (past.marks ++ mark ∷ []) (past.saved ++ saved ∷ [])

-- the cluster is where that leads: at most t lie, and all of it is a run of the world after which the posts are what they are
pub record ClusterStandsFor (past : Played) (cluster : ClusterFields) : Type 0 where
  pub lawful : IsSize past.size
  pub few : count_below past.size.n past.liars ≤ past.size.t
  pub size_is : cluster.size ≡ past.size
  pub followed : IsFollowed past.size past.liars (opening past.fused) past.script past.marks past.saved cluster.posts
