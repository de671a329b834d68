-- Drawn scripts that were played and judged.
use Rattle.std.specs.Prelude.{ℕ, ◌≡◌, List}
use Rattle.script.specs.Scripts.{IsScript}
use Rattle.commands.specs.declared.simulate.Simulation.{Simulation}
use Rattle.commands.specs.Pages.{IsOutcome, trace_of}
use Rattle.trials.specs.declared.judging.Judgement.{Judgement}
use Rattle.trials.specs.Notes.{notes_of}
use Rattle.trials.specs.Judging.{decisions, finding_in}

-- the judgement is that of the trace of a simulation of the script that the text says
pub record IsJudged (text : List ℕ) (least : ℕ) (judgement : Judgement) : Type 0 where
  pub ran : Simulation
  pub says : IsScript text ran.script
  pub run : IsOutcome ran.script ran.outcome
  pub decisions : judgement.decisions ≡ decisions (notes_of (trace_of ran))
  pub finding : judgement.finding ≡ finding_in (notes_of (trace_of ran)) least
