use Rattle.std.proofs.Common.{◌≡◌, ◌<◌, List, ℕ, length, string_bytes, ◌++◌, drop}
use Rattle.std.specs.List.{flat_map}
use Rattle.report.specs.Pictures.{listed, said_parts, said_text}
use Rattle.report.proofs.chart.said_text.Given as goal

-- the kinds so far are listed, and those that are left come behind them
abbrev pub invariant-loop-kind : goal.invariant-loop-kind
invariant-loop-kind l = 0 < length l.verb
    → (parts : List (List ℕ)) × (string_bytes l.text ≡ listed l.verb parts)
    × (listed l.verb (parts ++ flat_map (said_parts l.saved) (drop l.kind-index l.kind-items)) ≡ said_text l.verb l.saved)
