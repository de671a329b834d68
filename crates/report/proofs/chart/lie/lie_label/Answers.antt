use Rattle.std.proofs.Common.{◌≡◌, inr, string_bytes}
use Rattle.std.proofs.lemmas.Result.{IfOk-weaker}
use Rattle.report.specs.Charts.{bytes_label, IsLieLabel}
use Rattle.report.proofs.chart.lie.lie_label.Goals as goal

pub returns-in-None : goal.returns-in-None
returns-in-None c =
    IfOk-weaker c.bytes_label.result (λ text. string_bytes text ≡ bytes_label c.args.bytes.now) (λ text. IsLieLabel c.args.size c.args.bytes.now (string_bytes text))
    (λ text e. inr (c.in_ok-statement.ensures.none c.in-None.is, e)) c.bytes_label.ensures
