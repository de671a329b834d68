use Rattle.std.proofs.Common.{◌≡◌, ◌↔◌, IsTrue, List, ℕ, sym, subst, IfOk}
use Rattle.terms_prelude.specs.Terms.{Statement}
use Rattle.sim.specs.declared.events.Event.{Event}
use Rattle.report.specs.Charts.{IsFrameOf}
use Rattle.report.specs.Choices.{IsAbout}
use Rattle.report.proofs.chart.choice.Chooser.is_about.Goals as goal

pub returns-in-LieBytes : goal.returns-in-LieBytes
returns-in-LieBytes c =
    let size = c.args.self.now.size in
    let question = c.args.question in
    subst (λ (event : Event). IfOk c.may_be_about.result (λ is. IsTrue is ↔ IsAbout size c.args.self.now.columns.items question event)) (sym c.in-LieBytes.is)
    (subst (λ (bytes : List ℕ). IfOk c.may_be_about.result (λ is. IsTrue is ↔ ((s : Statement) → IsFrameOf size bytes s → s.place.question ≡ question))) c.as_slice.ensures.value
    c.may_be_about.ensures)
