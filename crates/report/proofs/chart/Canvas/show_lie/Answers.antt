use Rattle.std.proofs.Common.{List, ℕ, subst, OnOk, string_bytes}
use Rattle.report.specs.Drawings.{Grows}
use Rattle.report.specs.Pictures.{lie_elements}
use Rattle.report.proofs.Picturing.{lie_drawn}
use Rattle.report.proofs.chart.Canvas.show_lie.Goals as goal

pub returns-clause-drawn : goal.returns-clause-drawn
returns-clause-drawn c =
    lie_drawn c.show_lie_of.result c.args.self.now.events c.show_lie_of.new.self.events c.args.self.now.size c.args.bytes.now (string_bytes c.in_ok-label.label) c.args.liar c.args.to c.args.y
    c.in_ok-label.ensures
    (subst (λ (t : List ℕ). OnOk c.show_lie_of.result (Grows c.args.self.now.events c.show_lie_of.new.self.events (lie_elements c.args.liar c.args.to t c.args.y))) c.as_str.ensures.value
    c.show_lie_of.ensures.drawn)
