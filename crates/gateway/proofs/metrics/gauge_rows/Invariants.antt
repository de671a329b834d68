use Rattle.std.proofs.Common.{◌≡◌, ◌++◌, drop, string_bytes}
use Rattle.gateway.specs.Metrics.{gauge_rows}
use Rattle.gateway.proofs.metrics.gauge_rows.Given as goal

-- the rows so far, and those of the members that are left
abbrev pub invariant-loop-member : goal.invariant-loop-member
invariant-loop-member l =
    string_bytes l.text ++ gauge_rows l.metric l.member (drop l.member l.fn.views) ≡ gauge_rows l.metric 0 l.fn.views
