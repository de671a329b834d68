use Rattle.std.proofs.Common.{◌≡◌, ◌+◌, ◌∙◌, List, ℕ, ap, refl, subst, min, get_or, length}
use Rattle.std.specs.Io.KnownBytes.{Appends}
use Rattle.std.proofs.lemmas.List.{get_or-take}
use Rattle.report.proofs.Tracing.{one_is_least, ended}
use Rattle.report.proofs.Running.{below_least, next_is}
use Rattle.playing.specs.Rows.{rows_text}
use Rattle.playing.proofs.Tabling.{rows_step, whole}
use Rattle.playing.proofs.rows.write_rows.Goals as goal

pub loop-index-preserved : goal.loop-index-preserved
loop-index-preserved g c =
    let events = c.args.events.now in
    let marks = c.as_slice-marks.result.now in
    let saved = c.as_slice-saved.result.now in
    let all = rows_text events c.args.outcome.now.marks.items c.args.outcome.now.saved.items in
    let i = c.loop-index.index in
    let left = c.loop-index.left in
    let count : c.min-count.result ≡ min (min (length events) (length marks)) (length saved) =
    c.min-count.ensures ∙ ap (λ k. min k (length saved)) c.min.ensures in
    let inside = below_least events (length marks) (length saved) c.min-count.result i count c.loop-index-test.true in
    let event : c.event-item.result ≡ get_or events i c.event-item.result =
    c.event-item.is ∙ get_or-take c.min-count.result events i c.event-item.result inside.3 in
    rows_step (g.W.Write.contents c.args.output.now) (g.W.Write.contents c.loop-index.output) (g.W.Write.contents c.write_row.new.output) left c.in_ok-left.left i
    events marks saved all c.event-item.result _ c.index-saved-index.result c.deref.result.now c.deref.ensures.value c.in_ok-left.ensures.left
    (next_is events i c.event-item.result c.event-item.result inside.0 event) (next_is marks i _ _ inside.1 refl)
    (next_is saved i c.index-saved-index.result c.index-saved-index.result inside.2 c.index-saved-index.is) c.loop-index.invariant c.in_ok-left.ensures.written

pub returns : goal.returns
returns g c =
    let events = c.args.events.now in
    let marks = c.as_slice-marks.result.now in
    let saved = c.as_slice-saved.result.now in
    let i = c.loop-index.index in
    let count : c.min-count.result ≡ min (min (length events) (length marks)) (length saved) =
    c.min-count.ensures ∙ ap (λ k. min k (length saved)) c.min.ensures in
    let before = c.loop-index.invariant in
    subst (λ (t : List ℕ). Appends (g.W.Write.contents c.args.output.now) (g.W.Write.contents c.loop-index.output) t)
    (whole before.0 (rows_text events c.args.outcome.now.marks.items c.args.outcome.now.saved.items) c.loop-index.left (i + 1) i events marks saved before.2
    (one_is_least (length events) (length marks) (length saved) i (ended events (length marks) (length saved) c.min-count.result i count c.loop-index-test.false)))
    before.1
