-- The words of this crate in one module, for proofs.
pub use Rattle.sim.specs.declared.events.Event.{Event}
pub use Rattle.sim.specs.declared.events.Event.TheVariants.{Crash, Deliver, DeliverAll, Fuse, LieBytes, Propose, Reset, Restart}
pub use Rattle.sim.specs.declared.events.Mark.{Mark}
pub use Rattle.sim.specs.declared.events.Mark.TheVariants.{Done, Failed, Skipped}
pub use Rattle.sim.specs.declared.events.Reason.{Reason}
pub use Rattle.sim.specs.declared.events.Reason.TheVariants.{Nothing}
pub use Rattle.sim.specs.declared.events.Which.{Which}
pub use Rattle.sim.specs.declared.events.Which.TheVariants.{At, Next}
pub use Rattle.sim.specs.declared.faults.SimFault.{SimFault}
pub use Rattle.sim.specs.declared.links.Link.{Link}
pub use Rattle.sim.specs.declared.posts.Delivery.{Delivery}
pub use Rattle.sim.specs.declared.posts.Post.{Post}
pub use Rattle.sim.specs.declared.presence.Presence.{Presence}
pub use Rattle.sim.specs.declared.presence.Presence.TheVariants.{Down, Here, Liar}
pub use Rattle.sim.specs.declared.tasks.Instruction.{Instruction}
pub use Rattle.sim.specs.Links.{ReadsBytes, is_broken_at, message_of, statements_in, statements_of}
pub use Rattle.sim.specs.Outcomes.{AllProposedOnly, AreDisks, AreLiars, AreUnanimous, HasFuse, HaveOneBit, IsSimulation, ProposedOnly, ProposesOnly, Verdict, among, fused_in, verdict_in, verdicts_below, verdicts_of, verdicts_of_below}
unfoldable pub use Rattle.sim.specs.Plays.{last_saved}
pub use Rattle.sim.specs.Plays.{ClusterFields, ClusterStandsFor, Played, and_then, played, saved_among, saved_behind, unplayed}
pub use Rattle.sim.specs.Posts.{AreSaid, IsGroupFor, CanBeDone, IsCluster, IsCreated, IsDone, IsLink, IsNewLink, IsOpenedPost, IsPost, IsReady, OpensPost}
pub use Rattle.sim.specs.Runs.{IsEvent, IsFollowed, IsPlanned, IsRunOf, IsSteady, IsTurn}
pub use Rattle.sim.specs.Scene.{Does, HearsLies, Scene, bytes_in, cleared, delivery_of, for_link, group_of, moved, opening, plan_of, put_at, scene_after, to_deliver, to_group}
pub use Rattle.sim.specs.Presences.{Answers, AnswersGroup, AreLies, GoesOn, HasCrashed, IsDown, IsFreshPresence, IsMarkOf, IsMove, IsPresenceAt, MayCome, Reopens, all_said, disk_in, group_from, hearings_from, is_liar, is_up, mine, nth_said, saved_in}
