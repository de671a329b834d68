use Rattle.std.proofs.Common.{◌≡◌, take, string_bytes}
use Rattle.commands.specs.Dumps.{record_lines}
use Rattle.commands.proofs.dump.record_lines.Given as goal

-- the records so far have their lines
abbrev pub invariant-loop-record : goal.invariant-loop-record
invariant-loop-record l = string_bytes l.text ≡ record_lines (take l.record-index l.records)
