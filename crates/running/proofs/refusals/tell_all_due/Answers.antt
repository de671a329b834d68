use Rattle.std.proofs.Common.{◌≡◌, ◌+◌, ℕ, arith, refl, subst}
use Rattle.running.specs.Queues.{HaveCome}
use Rattle.running.specs.Refusals.{counted_by, dues_below, events_of, held}
use Rattle.running.proofs.Tables.{at_last, next_below, next_events, none_below}
use Rattle.running.proofs.refusals.tell_all_due.Goals as goal

pub loop-at-init : goal.loop-at-init
loop-at-init c = record { due = none_below c.args.now c.args.places.now c.requires; events = refl }

pub loop-at-preserved : goal.loop-at-preserved
loop-at-preserved c = record {
  due = next_below c.args.now c.args.places.now c.loop-at.at c.loop-at.places c.due_at-line.new.places c.loop-at-test.true c.loop-at.invariant.due
      c.due_at-line.ensures.table c.due_at-line.ensures.after;
  events = next_events c.args.now c.args.places.now c.loop-at.at c.loop-at.places c.args.queue.now c.loop-at.queue c.put_line.new.queue c.due_at-line.result
      c.loop-at.invariant.due c.loop-at.invariant.events c.due_at-line.ensures.due c.put_line.ensures;
}

pub returns-clause-table : goal.returns-clause-table
returns-clause-table c = c.loop-at.invariant.due.is

pub returns-clause-events : goal.returns-clause-events
returns-clause-events c =
    subst (λ (k : ℕ). HaveCome c.args.queue.now (events_of (dues_below c.args.now c.args.places.now k)) c.loop-at.queue)
    (at_last c.args.now c.args.places.now c.loop-at.at c.requires c.loop-at.auto.at-end c.loop-at-test.false) c.loop-at.invariant.events

pub returns-clause-after : goal.returns-clause-after
returns-clause-after c at within = c.loop-at.invariant.due.below at (omega (arith, within, c.loop-at-test.false))

pub returns-clause-counts : goal.returns-clause-counts
returns-clause-counts c =
    subst (λ (k : ℕ). held c.loop-at.places + counted_by (dues_below c.args.now c.args.places.now k) ≡ held c.args.places.now)
    (at_last c.args.now c.args.places.now c.loop-at.at c.requires c.loop-at.auto.at-end c.loop-at-test.false) c.loop-at.invariant.due.counts
