-- The words of this crate in one module, for proofs.
pub use Rattle.node.specs.declared.entry.Entry.{Entry}
pub use Rattle.node.specs.Accounts.{BoardName, Group, IsWithin, said_by, said_in_group, with_group}
pub use Rattle.node.specs.Books.{Applies, IsReplayed, heard_in, lengthened, logged}
pub use Rattle.node.specs.Entries.{noted}
pub use Rattle.node.specs.Firsts.{HandsIn, IsCounted, IsLawfulSeat, SeatView, counted, firsts_of, grow, grown, is_first, new_seat, new_seats}
pub use Rattle.node.specs.Groups.{AppliesAll, LivesOnAll, heard_from, lengthened_all, said_in}
pub use Rattle.node.specs.Keeps.{AreDecided, IsKept, IsTied}
pub use Rattle.node.specs.Marks.{AreMarked, FirstsView, mark_of}
pub use Rattle.node.specs.Settled.{AreSeated, IsSeatOf, IsSeated, all_below, is_seated, is_settled, same_statements}
pub use Rattle.node.specs.Standings.{AreDecisionsOf, IsBookAt, IsBookOf, IsDecisionOf, IsStanding, PublishedView, status_of}
pub use Rattle.node.specs.Decisions.{AreDecisions, IsOrdered, OrderView, decisions_in}
pub use Rattle.node.specs.Tallies.{AreCounted, IsTallied, TallyView, tallied}
pub use Rattle.node.specs.Transcripts.{AreFirstsOn, AreMarkedIn, DossierView, HasNoTranscript, IsDossier, IsHeardProof, IsTranscript, ShowsNothing, WereHeard, heard_on, questions_of, said_of, statements_on}
pub use Rattle.node.specs.Verdicts.{KnownCells, KnowsMore, PassView, SeesOn, known_at, ruling_at, ruling_in, ruling_of, told, told_from}
pub use Rattle.node.specs.Views.{BookView, EndedView, ended_of}
