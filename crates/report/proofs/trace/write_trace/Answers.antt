use Rattle.std.proofs.Common.{◌≡◌, ◌+◌, ◌∙◌, ◌++◌, List, ℕ, ap, refl, subst, min, get_or, length, string_bytes}
use Rattle.std.specs.Io.KnownBytes.{Appends}
use Rattle.std.proofs.KnownBytes.{Appends-trans}
use Rattle.std.proofs.lemmas.List.{get_or-take}
use Rattle.report.specs.Traces.{trace_text}
use Rattle.report.proofs.Tracing.{trace_on, whole, one_is_least, ended}
use Rattle.report.proofs.Running.{below_least, next_is}
use Rattle.report.proofs.trace.write_trace.Goals as goal

pub loop-index-preserved : goal.loop-index-preserved
loop-index-preserved g c =
    let events = c.args.events.now in
    let marks = c.args.marks.now in
    let saved = c.args.saved.now in
    let i = c.loop-index.index in
    let count : c.min-count.result ≡ min (min (length events) (length marks)) (length saved) =
    c.min-count.ensures ∙ ap (λ k. min k (length saved)) c.min.ensures in
    let inside = below_least events (length marks) (length saved) c.min-count.result i count c.loop-index-test.true in
    let event : c.event-item.result ≡ get_or events i c.event-item.result =
    c.event-item.is ∙ get_or-take c.min-count.result events i c.event-item.result inside.3 in
    let before = c.loop-index.invariant in
    let written = subst (λ (t : List ℕ). Appends (g.W.Write.contents c.loop-index.output) (g.W.Write.contents c.write_all.new.self) t) c.as_bytes.ensures.value
    c.in_ok-write_all.ensures.bytes in (
      before.0 ++ string_bytes c.in_ok-line.line,
      Appends-trans (g.W.Write.contents c.args.output.now) (g.W.Write.contents c.loop-index.output) (g.W.Write.contents c.write_all.new.self) before.0 (string_bytes c.in_ok-line.line)
          before.1 written,
      trace_on i events marks saved before.0 (string_bytes c.in_ok-line.line) (trace_text events marks saved) c.event-item.result _ c.index-saved-index.result c.deref.result.now
          c.deref.ensures.value c.in_ok-line.ensures (next_is events i c.event-item.result c.event-item.result inside.0 event) (next_is marks i _ _ inside.1 refl)
          (next_is saved i c.index-saved-index.result c.index-saved-index.result inside.2 c.index-saved-index.is) before.2,
    )

pub returns : goal.returns
returns g c =
    let events = c.args.events.now in
    let marks = c.args.marks.now in
    let saved = c.args.saved.now in
    let i = c.loop-index.index in
    let count : c.min-count.result ≡ min (min (length events) (length marks)) (length saved) =
    c.min-count.ensures ∙ ap (λ k. min k (length saved)) c.min.ensures in
    let before = c.loop-index.invariant in
    subst (λ (t : List ℕ). Appends (g.W.Write.contents c.args.output.now) (g.W.Write.contents c.loop-index.output) t)
    (whole before.0 (trace_text events marks saved) (i + 1) i events marks saved before.2
    (one_is_least (length events) (length marks) (length saved) i (ended events (length marks) (length saved) c.min-count.result i count c.loop-index-test.false)))
    before.1
