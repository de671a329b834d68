use Rattle.std.proofs.Common.{◌∙◌, string_bytes}
use Rattle.report.proofs.Wording.{written_as}
use Rattle.playing.proofs.Joining.{fields_are, counts_as, rows_as}
use Rattle.playing.proofs.page.fields_json.Goals as goal

pub returns : goal.returns
returns c =
    let run = c.args.run.now in
    written_as c.format.result _ _
    (fields_are run.size run.liars.now run.outcome.now (string_bytes c.in_ok-size.size) (string_bytes c.in_ok-counts.counts) (string_bytes c.in_ok-decided.decided)
    c.in_ok-size.ensures (c.in_ok-counts.ensures ∙ counts_as _ _ c.deref.ensures.value) (c.in_ok-decided.ensures ∙ rows_as _ _ c.deref-2.ensures.value))
    c.format.ensures.ok
