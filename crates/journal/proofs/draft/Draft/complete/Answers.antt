use Rattle.std.proofs.Common.{refl, sym, subst}
use Rattle.disk.proofs.Moments.{leaves_more}
use Rattle.journal.specs.Words.{HasNotCompleted, HoldsAllOrNothing, batch_records, draft_disk, draft_header, draft_gate, journal_disk, journal_header, journal_gate, journal_is_stopped}
use Rattle.journal.proofs.Drafts.{completed, completed_text, first_leaves}
use Rattle.journal.proofs.Held.{left_holds}
use Rattle.journal.proofs.draft.Draft.complete.Goals as goal

pub returns-in-Ok-clause-completed : goal.returns-in-Ok-clause-completed
unfolding draft_disk draft_header draft_gate journal_disk journal_header journal_gate journal_is_stopped
returns-in-Ok-clause-completed g c =
    let old = c.args.self in
    let state = g.D.Disk.state in
    let now = state c.write_first.new.disk in
    record {
      settled = λ keeps batches is.
          record { running = refl; header_is = refl; held = completed state batches old is now (c.in-Ok.ensures.done keeps) };
      written = λ keeps batches is. completed_text state batches old is now (c.in-Ok.ensures.done keeps);
      durable = λ keeps batches is file may.
          left_holds now old.header old.tail.gate (batch_records batches) (completed state batches old is now (c.in-Ok.ensures.done keeps)) file may;
      any_moment = λ keeps batches is.
          leaves_more (HoldsAllOrNothing old.header batches) (first_leaves state batches old is) (c.write_first.ensures.any_moment keeps);
      two_calls = c.in-Ok.ensures.two_calls;
      quiet = c.in-Ok.ensures.cause.passed refl;
      kept = c.write_first.ensures.kept;
    }

pub returns-in-Err-clause-fault : goal.returns-in-Err-clause-fault
unfolding draft_disk draft_header draft_gate journal_disk journal_header journal_gate journal_is_stopped
returns-in-Err-clause-fault g c =
    let old = c.args.self in
    subst (λ (d : g.row.D.Denot). HasNotCompleted g.D.Disk old d) (sym c.into_disk.ensures)
    (record {
      any_moment = λ keeps batches is.
          leaves_more (HoldsAllOrNothing old.header batches) (first_leaves g.D.Disk.state batches old is) (c.write_first.ensures.any_moment keeps);
      cause = c.in-Err.ensures.cause.failed refl;
      kept = c.write_first.ensures.kept;
    })
