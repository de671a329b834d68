use Rattle.std.proofs.Common.{◌∙◌}
use Rattle.std.proofs.lemmas.Result.{IfOk-weaker}
use Rattle.playing.proofs.Joining.{run_written}
use Rattle.playing.proofs.page.write_run.Goals as goal

pub returns : goal.returns
returns g c =
    let run = c.args.run.now in
    IfOk-weaker c.write_all-3.result _ _
    (λ _ last. run_written (g.W.Write.contents c.args.output.now) (g.W.Write.contents c.write_all.new.self) (g.W.Write.contents c.write_all-2.new.self)
    (g.W.Write.contents c.write_rows.new.output) (g.W.Write.contents c.write_all-3.new.self) run.name.now run.liars.now run.size run.events.now run.outcome.now
    c.deref.result.now c.as_bytes.result.now (c.deref.ensures.value ∙ c.in_ok-name.ensures) (c.as_bytes.ensures.value ∙ c.in_ok-fields.ensures)
    c.in_ok-write_all.ensures.bytes c.in_ok-write_all-2.ensures.bytes c.in_ok-write_rows.ensures last)
    c.write_all-3.ensures.bytes
