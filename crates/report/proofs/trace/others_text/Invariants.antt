use Rattle.std.proofs.Common.{◌≡◌, take, string_bytes}
use Rattle.std.specs.List.{flat_map}
use Rattle.report.specs.Traces.{also_text}
use Rattle.report.proofs.trace.others_text.Given as goal

-- the records so far have their words
abbrev pub invariant-loop-record : goal.invariant-loop-record
invariant-loop-record l = string_bytes l.text ≡ flat_map also_text (take l.record-index l.others)
