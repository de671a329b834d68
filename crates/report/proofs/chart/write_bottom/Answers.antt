use Rattle.std.proofs.Common.{rules, ◌≡◌, ◌+◌, ◌∙◌, List, ℕ, OnOk, subst}
use Rattle.std.specs.Io.KnownBytes.{Appends}
use Rattle.report.specs.Runs.{picture_end}
use Rattle.report.proofs.Charting.{end_is}
use Rattle.report.proofs.chart.write_bottom.Goals as goal

pub returns : goal.returns
returns g c room =
    let below : c.saturating_add.result ≡ c.args.bottom + 36 = search (rules, room, c.saturating_add.ensures) in
    let is : c.as_bytes.result.now ≡ picture_end c.args.bottom =
    c.as_bytes.ensures.value ∙ c.in_ok-end.ensures.ok ∙ end_is c.args.bottom c.saturating_add.result _ below c.in_ok-legend.ensures in
    subst (λ (t : List ℕ). OnOk c.write_all.result (Appends (g.W.Write.contents c.args.output.now) (g.W.Write.contents c.write_all.new.self) t)) is c.write_all.ensures.bytes
