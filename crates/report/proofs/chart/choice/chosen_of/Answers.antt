use Rattle.std.proofs.Common.{◌≡◌, ◌∙◌, ◌+◌, Bool, List, ap, refl, sym, subst, get_or, length}
use Rattle.std.specs.Global.{Vec}
use Rattle.std.proofs.lemmas.List.{get_or-take}
use Rattle.terms_prelude.specs.Terms.{Record}
use Rattle.report.proofs.Choosing.{IsSo, judged_with, so_on, so_done}
use Rattle.report.proofs.Running.{below_least, next_is}
use Rattle.report.proofs.Tracing.{one_is_least, ended}
use Rattle.report.proofs.chart.choice.chosen_of.Goals as goal

pub loop-index-preserved : goal.loop-index-preserved
loop-index-preserved c =
    let run = c.args.run.now in
    let choice = c.args.choice in
    let events = run.events.now in
    let marks = run.marks.now in
    let saved = run.saved.now in
    let i = c.loop-index.index in
    let before = c.loop-index.invariant in
    let old = c.loop-index.chooser.columns.items in
    let new = c.take.new.self.columns.items in
    let is = c.in_ok-take.field-0 in
    let inside = below_least events (length marks) (length saved) c.shortest.result i c.shortest.ensures c.loop-index-test.true in
    let event : c.event-item.result ≡ get_or events i c.event-item.result =
    c.event-item.is ∙ get_or-take c.shortest.result events i c.event-item.result inside.3 in
    let judged = judged_with c.loop-index.chooser.choice choice c.loop-index.chooser.size run.size (i + 1) c.event-item.result _ c.deref.result.now old new is
    before.1 before.2 c.in_ok-take.ensures.judges in (
      subst (λ (l : List Bool). IsSo choice run.size run.liars.now events marks saved (i + 1) new l) (sym c.in_ok-push.ensures.items)
          (so_on choice run.size run.liars.now events marks saved i old new c.loop-index.chosen.items c.event-item.result _ c.index-run-index.result c.deref.result.now is
          (c.deref.ensures.value ∙ ap (λ (v : Vec Record). v.items) (sym c.index-run-index.is)) before.0 judged
          (next_is events i c.event-item.result c.event-item.result inside.0 event) (next_is marks i _ _ inside.1 refl)
          (next_is saved i c.index-run-index.result c.index-run-index.result inside.2 c.index-run-index.is)),
      c.take.ensures.stays.0 ∙ before.1,
      c.take.ensures.stays.1 ∙ before.2,
    )

pub returns : goal.returns
returns c =
    let run = c.args.run.now in
    let events = run.events.now in
    let marks = run.marks.now in
    let saved = run.saved.now in
    let i = c.loop-index.index in
    so_done c.args.choice run.size run.liars.now events marks saved i c.loop-index.chooser.columns.items c.loop-index.chosen.items c.loop-index.invariant.0
    (one_is_least (length events) (length marks) (length saved) i (ended events (length marks) (length saved) c.shortest.result i c.shortest.ensures c.loop-index-test.false))
