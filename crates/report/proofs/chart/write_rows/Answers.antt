use Rattle.std.proofs.Common.{arith, ◌≡◌, ◌∙◌, ◌<◌, ap, sym, refl, get_or, length, min}
use Rattle.std.specs.Global.{Vec}
use Rattle.std.proofs.lemmas.List.{get_or-take}
use Rattle.terms_prelude.specs.Terms.{Record}
use Rattle.sim.specs.declared.TheConstants.{MOST_EVENTS}
use Rattle.report.proofs.Tracing.{ended_of_four}
use Rattle.report.proofs.Running.{far_begun, far_on, far_done, below_four, next_is}
use Rattle.report.proofs.chart.write_rows.Goals as goal

pub loop-index-init : goal.loop-index-init
loop-index-init g c few =
    let run = c.args.run.now in
    far_begun run.size run.liars.now run.events.now run.marks.now run.saved.now c.args.chosen.now c.in_ok-canvas.canvas c.write_out.new.self
    (g.W.Write.contents c.args.output.now) (g.W.Write.contents c.write_out.new.output)
    c.in_ok-canvas.ensures c.in_ok-write_out.ensures.only c.in_ok-write_out.ensures.rest c.in_ok-write_out.ensures.written

pub loop-index-preserved : goal.loop-index-preserved
loop-index-preserved g c few =
    let run = c.args.run.now in
    let events = run.events.now in
    let marks = run.marks.now in
    let saved = run.saved.now in
    let chosen = c.args.chosen.now in
    let i = c.loop-index.index in
    let count : c.min-count.result ≡ min (min (min (length events) (length marks)) (length saved)) (length chosen) =
    c.min-count.ensures ∙ ap (λ k. min k (length chosen)) c.shortest.ensures in
    let inside = below_four events (length marks) (length saved) (length chosen) c.min-count.result i count c.loop-index-test.true in
    let far = c.loop-index.invariant few in
    let room : c.loop-index.canvas.rows < MOST_EVENTS = omega (arith, far.few, inside.0, few) in
    let event : c.event-item.result ≡ get_or events i c.event-item.result =
    c.event-item.is ∙ get_or-take c.min-count.result events i c.event-item.result inside.4 in
    far_on run.size run.liars.now events marks saved chosen i c.loop-index.canvas c.take.new.self c.write_out-in-loop-index.new.self
    (g.W.Write.contents c.args.output.now) (g.W.Write.contents c.loop-index.output) (g.W.Write.contents c.write_out-in-loop-index.new.output)
    c.event-item.result _ c.index-run-index.result c.deref.result.now _
    (c.deref.ensures.value ∙ ap (λ (v : Vec Record). v.items) (sym c.index-run-index.is)) far (c.in_ok-take.ensures room) c.in_ok-write_out-2.ensures.only c.in_ok-write_out-2.ensures.rest c.in_ok-write_out-2.ensures.written
    (next_is events i c.event-item.result c.event-item.result inside.0 event)
    (next_is marks i _ _ inside.1 refl) (next_is saved i c.index-run-index.result c.index-run-index.result inside.2 c.index-run-index.is)
    (next_is chosen i _ _ inside.3 refl)

pub returns : goal.returns
returns g c few =
    let run = c.args.run.now in
    let events = run.events.now in
    let marks = run.marks.now in
    let saved = run.saved.now in
    let chosen = c.args.chosen.now in
    let i = c.loop-index.index in
    let count : c.min-count.result ≡ min (min (min (length events) (length marks)) (length saved)) (length chosen) =
    c.min-count.ensures ∙ ap (λ k. min k (length chosen)) c.shortest.ensures in
    far_done run.size run.liars.now events marks saved chosen i c.loop-index.canvas
    (g.W.Write.contents c.args.output.now) (g.W.Write.contents c.loop-index.output) (c.loop-index.invariant few)
    (ended_of_four events (length marks) (length saved) (length chosen) c.min-count.result i count c.loop-index-test.false)
