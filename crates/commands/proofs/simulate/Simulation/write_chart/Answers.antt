use Rattle.std.proofs.Common.{ℕ, ◌≡◌, ◌≤◌, List, length, sym, subst}
use Rattle.std.proofs.lemmas.Result.{IfOk-weaker}
use Rattle.std.specs.Global.{Vec}
use Rattle.sim.specs.declared.TheConstants.{MOST_EVENTS}
use Rattle.sim.specs.declared.events.Event.{Event}
use Rattle.sim.specs.declared.events.Mark.{Mark}
use Rattle.terms_prelude.specs.Terms.{Record}
use Rattle.report.specs.Runs.{IsChart}
use Rattle.commands.proofs.simulate.Simulation.write_chart.Goals as goal

pub returns : goal.returns
returns g c few =
    let ran = c.args.self.now in
    let choice = c.args.choice in
    let size = ran.script.size in
    let short : length c.deref-2.result.now ≤ MOST_EVENTS = subst (λ (l : List Event). length l ≤ MOST_EVENTS) (sym c.deref-2.ensures.value) few in
    IfOk-weaker c.write_chart.result _ _ (λ rows told. (
      told.0,
      (
        subst (λ (l : List ℕ). IsChart choice size l ran.script.events.items ran.outcome.marks.items ran.outcome.saved.items rows told.0) c.deref.ensures.value
            (subst (λ (l : List Event). IsChart choice size c.deref.result.now l ran.outcome.marks.items ran.outcome.saved.items rows told.0) c.deref-2.ensures.value
            (subst (λ (l : List Mark). IsChart choice size c.deref.result.now c.deref-2.result.now l ran.outcome.saved.items rows told.0) c.deref-3.ensures.value
            (subst (λ (l : List (Vec Record)). IsChart choice size c.deref.result.now c.deref-2.result.now c.deref-3.result.now l rows told.0) c.deref-4.ensures.value told.1))),
        told.2,
      ),
      told.3,
    )) (c.write_chart.ensures short)
