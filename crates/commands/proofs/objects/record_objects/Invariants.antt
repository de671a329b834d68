use Rattle.std.proofs.Common.{◌≡◌, take, string_bytes}
use Rattle.std.specs.List.{flat_map}
use Rattle.commands.specs.Objects.{record_object}
use Rattle.commands.proofs.objects.record_objects.Given as goal

-- the records so far have their objects
abbrev pub invariant-loop-record : goal.invariant-loop-record
invariant-loop-record l = string_bytes l.text ≡ flat_map record_object (take l.record-index l.records)
