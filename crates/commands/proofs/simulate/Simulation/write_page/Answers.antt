use Rattle.std.proofs.lemmas.Result.{IfOk-weaker}
use Rattle.commands.proofs.Showing.{page_of_run}
use Rattle.commands.proofs.simulate.Simulation.write_page.Goals as goal

pub returns : goal.returns
returns g c =
    let ran = c.args.self.now in
    let template = c.args.template.now in
    IfOk-weaker c.write_page.result _ _
    (λ _ told. page_of_run (g.W.Write.contents c.args.output.now) (g.W.Write.contents c.write_page.new.output) template.before.now template.after.now c.args.name.now
    c.as_slice.result.now ran.script.liars.items ran.script.size c.as_slice-2.result.now ran.script.events.items ran.outcome
    c.as_slice.ensures.value c.as_slice-2.ensures.value told)
    c.write_page.ensures
