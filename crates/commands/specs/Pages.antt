-- What a simulation makes.
use Rattle.std.specs.Prelude.{ℕ, false, List}
use Rattle.script.specs.declared.Script.{Script}
use Rattle.sim.specs.declared.cluster.Outcome.{Outcome}
use Rattle.sim.specs.Outcomes.{IsSimulation, among}
use Rattle.commands.specs.declared.simulate.Simulation.{Simulation}
pub use Rattle.report.specs.declared.chart.choice.Choice.{Choice}
use Rattle.report.specs.Traces.{trace_text}
use Rattle.report.specs.Charts.{IsSvg}
use Rattle.report.specs.Runs.{IsChart}
use Rattle.playing.specs.Pages.{run_json, page_text}

-- the outcome is that of a run of the script, over disks in which no fuse is
abbrev pub IsOutcome : Script → Outcome → Type 0
IsOutcome script outcome =
    IsSimulation script.size (among script.liars.items) (λ p. false) script.events.items
    outcome.marks.items outcome.saved.items outcome.verdicts.items

-- the trace of a simulation
abbrev pub trace_of : Simulation → List ℕ
trace_of ran = trace_text ran.script.events.items ran.outcome.marks.items ran.outcome.saved.items

-- its chart with the events that are chosen, which is a picture of so many rows
abbrev pub IsChartOf : Choice → Simulation → ℕ → List ℕ → Type 0
IsChartOf choice ran rows picture =
    IsChart choice ran.script.size ran.script.liars.items ran.script.events.items ran.outcome.marks.items ran.outcome.saved.items rows picture
    × IsSvg picture

-- the page that plays it, of that name, between the two parts of a template
abbrev pub page_of : List ℕ → List ℕ → List ℕ → Simulation → List ℕ
page_of before after name ran =
    page_text before after (run_json name ran.script.size ran.script.liars.items ran.script.events.items ran.outcome)
