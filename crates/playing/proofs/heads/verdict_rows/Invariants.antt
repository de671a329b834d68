use Rattle.std.proofs.Common.{◌≡◌, take, string_bytes}
use Rattle.std.specs.List.{flat_map}
use Rattle.playing.specs.Heads.{verdict_row}
use Rattle.playing.proofs.heads.verdict_rows.Given as goal

-- the decisions so far have their rows
abbrev pub invariant-loop-verdict : goal.invariant-loop-verdict
invariant-loop-verdict l = string_bytes l.text ≡ flat_map verdict_row (take l.verdict-index l.verdicts)
