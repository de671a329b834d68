use Rattle.running.specs.Queues.{HaveCome}
use Rattle.running.specs.Refusals.{dues_below, events_of}
use Rattle.running.proofs.Tables.{DueBelow}
use Rattle.running.proofs.refusals.tell_all_due.Given as goal

abbrev pub invariant-loop-at : goal.invariant-loop-at
invariant-loop-at l = record {
  due : DueBelow l.now l.initial.places l.at l.places;
  events : HaveCome l.initial.queue (events_of (dues_below l.now l.initial.places l.at)) l.queue;
}
