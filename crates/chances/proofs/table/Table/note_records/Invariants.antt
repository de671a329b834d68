use Rattle.std.proofs.Common.{◌≡◌, take}
use Rattle.chances.specs.Tables.{Says, all_said, cores_of, tosses_of}
use Rattle.chances.proofs.table.Table.note_records.Given as goal

-- what the records so far say was put down
abbrev pub invariant-loop-noted : goal.invariant-loop-noted
invariant-loop-noted l =
    Says l.member (all_said (take l.noted-index l.records)) l.fn.self l.self
    × (cores_of l.self ≡ cores_of l.fn.self) × (tosses_of l.self ≡ tosses_of l.fn.self)
