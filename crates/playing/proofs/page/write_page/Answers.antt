use Rattle.std.proofs.lemmas.Result.{IfOk-weaker}
use Rattle.playing.specs.Pages.{run_json}
use Rattle.playing.proofs.Joining.{page_written}
use Rattle.playing.proofs.page.write_page.Goals as goal

pub returns : goal.returns
returns g c =
    let run = c.args.run.now in
    let template = c.args.template.now in
    IfOk-weaker c.write_all-2.result _ _
    (λ _ last. page_written (g.W.Write.contents c.args.output.now) (g.W.Write.contents c.write_all.new.self) (g.W.Write.contents c.write_run.new.output)
    (g.W.Write.contents c.write_all-2.new.self) template.before.now (run_json run.name.now run.size run.liars.now run.events.now run.outcome.now) template.after.now
    c.as_bytes.result.now c.as_bytes-2.result.now c.as_bytes.ensures.value c.as_bytes-2.ensures.value
    c.in_ok-write_all.ensures.bytes c.in_ok-write_run.ensures last)
    c.write_all-2.ensures.bytes
