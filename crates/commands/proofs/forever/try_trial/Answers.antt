use Rattle.std.proofs.Common.{rules, ◌≡◌, ◌∙◌, ap, subst, ℕ, List}
use Rattle.script.specs.Scripts.{IsScript}
use Rattle.trials.specs.Notes.{notes_of}
use Rattle.trials.specs.Judging.{decisions, finding_in}
use Rattle.commands.proofs.forever.try_trial.Goals as goal

pub returns : goal.returns
returns c =
    let same = c.deref.ensures.value ∙ c.in_ok-trace.ensures in
    record {
      ran = c.in_ok-simulation.simulation;
      says = subst (λ (text : List ℕ). IsScript text c.in_ok-simulation.simulation.script) c.as_bytes.ensures.value c.in_ok-simulation.ensures.says;
      run = c.in_ok-simulation.ensures.run;
      decisions = c.in_ok-judgement.ensures.decisions ∙ ap (λ (bytes : List ℕ). decisions (notes_of bytes)) same;
      finding = c.in_ok-judgement.ensures.finding ∙ ap (λ (bytes : List ℕ). finding_in (notes_of bytes) c.args.trial.least) same;
    }
