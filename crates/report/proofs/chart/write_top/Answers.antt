use Rattle.std.proofs.Common.{rules, ◌≡◌, ◌+◌, ◌∙◌, List, ℕ, OnOk, subst}
use Rattle.std.specs.Io.KnownBytes.{Appends}
use Rattle.report.specs.Runs.{picture_top}
use Rattle.report.proofs.Charting.{top_is}
use Rattle.report.proofs.chart.write_top.Goals as goal

pub returns : goal.returns
returns g c room =
    let height : c.saturating_add-height.result ≡ c.args.bottom + 196 = search (rules, room, c.saturating_add-height.ensures) in
    let is : c.as_bytes.result.now ≡ picture_top c.args.width c.args.bottom c.args.lifelines.now =
    c.as_bytes.ensures.value ∙ c.in_ok-top.ensures.ok
    ∙ top_is c.args.width c.args.bottom c.saturating_add-height.result _ _ c.args.lifelines.now height c.in_ok-size.ensures c.in_ok-page.ensures in
    subst (λ (t : List ℕ). OnOk c.write_all.result (Appends (g.W.Write.contents c.args.output.now) (g.W.Write.contents c.write_all.new.self) t)) is c.write_all.ensures.bytes
