use Rattle.std.proofs.Common.{◌≡◌, take, string_bytes}
use Rattle.std.specs.List.{flat_map}
use Rattle.gateway.specs.Metrics.{total_text}
use Rattle.gateway.proofs.metrics.total_texts.Given as goal

-- the metrics so far have their lines
abbrev pub invariant-loop-metric : goal.invariant-loop-metric
invariant-loop-metric l = string_bytes l.text ≡ flat_map (total_text l.tally) (take l.metric-index l.totals)
