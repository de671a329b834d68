use Rattle.std.proofs.Common.{◌≡◌, take, string_bytes}
use Rattle.report.specs.Pictures.{decided_text}
use Rattle.report.proofs.chart.decided_text.Given as goal

-- the decisions among the records so far are named
abbrev pub invariant-loop-record : goal.invariant-loop-record
invariant-loop-record l = string_bytes l.text ≡ decided_text l.questions (take l.record-index l.saved)
