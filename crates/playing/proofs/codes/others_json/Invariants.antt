use Rattle.std.proofs.Common.{◌≡◌, take, string_bytes}
use Rattle.std.specs.List.{flat_map}
use Rattle.playing.specs.Codes.{also_json}
use Rattle.playing.proofs.codes.others_json.Given as goal

-- the records so far have their numbers
abbrev pub invariant-loop-record : goal.invariant-loop-record
invariant-loop-record l = string_bytes l.text ≡ flat_map also_json (take l.record-index l.others)
