use Rattle.std.proofs.Common.{ℕ, List, ◌∙◌, subst}
use Rattle.std.specs.Io.KnownBytes.{Appends}
use Rattle.std.proofs.lemmas.Result.{IfOk-weaker}
use Rattle.commands.proofs.simulate.simulate_text.Goals as goal

-- what is printed is the page of the verdicts
pub returns-clause-all : goal.returns-clause-all
returns-clause-all g c =
    let of = c.in_ok-verdicts.ensures.all in
    let old = g.W.Write.contents c.args.output.now in
    let new = g.W.Write.contents c.print.new.output in
    IfOk-weaker c.print.result _ _
    (λ _ wrote. (
      of.0,
      of.1,
      of.2,
      of.3,
      subst (λ (text : List ℕ). Appends old new text) (c.as_str.ensures.value ∙ of.4) wrote,
    ))
    c.print.ensures.all
