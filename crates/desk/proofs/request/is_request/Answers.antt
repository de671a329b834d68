use Rattle.std.proofs.Common.{◌∙◌, sym}
use Rattle.desk.proofs.Requests.{ends_so, is_end}
use Rattle.desk.proofs.request.is_request.Goals as goal

pub returns : goal.returns
returns c = (
  (λ yes. let e = ends_so c.trimmed-text.result.now c.if-text-lt-VERSION.false (c.is.ensures.0 yes) in
      record { front = e.front; minor = e.minor; whole = sym c.trimmed-text.ensures ∙ e.whole }),
  (λ r. c.is.ensures.1 (is_end c.trimmed-text.result.now (record { front = r.front; minor = r.minor; whole = c.trimmed-text.ensures ∙ r.whole }))),
)
