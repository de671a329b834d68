-- What a script came to that nobody looked into.
use Rattle.std.specs.Prelude.{ℕ, ◌≡◌, false, List, ◌++◌, length, map}
use Rattle.std.specs.Global.{Vec}
use Rattle.terms_prelude.specs.Terms.{Size, Record}
use Rattle.script.specs.Acts.{TossedAct, tossed_act}
use Rattle.sim.specs.declared.events.Event.{Event}
use Rattle.sim.specs.declared.events.Mark.{Mark}
use Rattle.sim.specs.declared.cluster.Cluster.{Cluster}
use Rattle.sim.specs.Plays.{ClusterStandsFor, played}
use Rattle.sim.specs.Outcomes.{among}
use Rattle.commands.specs.Simulations.{skipped}

-- all of these events but those that are left were played over disks without a fuse: so many, of which so many were skipped
pub record CountsPlayed (size : Size) (liars : List ℕ) (all left : List TossedAct) (cluster : Cluster) (events skips : ℕ) : Type 0 where
  pub script : List Event
  pub marks : List Mark
  pub saved : List (Vec Record)
  pub stands : ClusterStandsFor (played size (among liars) (λ p. false) script marks saved) cluster
  pub told_are : map tossed_act script ++ left ≡ all
  pub marked : length marks ≡ length script
  pub each_saved : length saved ≡ length script
  pub events_are : events ≡ length marks
  pub skips_are : skips ≡ skipped marks
