use Rattle.std.proofs.Common.{refl}
use Rattle.engine.specs.Texts.{record_bytes, IsRecord}
use Rattle.engine.proofs.Rows.{none_more, odd_row, cut_row}
use Rattle.engine.proofs.Seven.{seven_of, split_seven, length-record, seven_some, some_left}
use Rattle.engine.proofs.records.records_of.Goals as goal

pub returns-in_default-record_of-clause-bad : goal.returns-in_default-record_of-clause-bad
returns-in_default-record_of-clause-bad c is =
    let rest = c.loop-rest.rest.now in
    let long = c.in-len7-up.len_at_least in
    none_more record_bytes IsRecord 7 seven_some length-record c.args.bytes.now rest c.loop-rest.records.items c.loop-rest.invariant
    (odd_row record_bytes IsRecord 7 seven_some length-record rest (seven_of rest) long (split_seven rest long) refl (c.in_default-record_of.ensures.none refl))

pub returns-else-is_empty-clause-bad : goal.returns-else-is_empty-clause-bad
returns-else-is_empty-clause-bad c is =
    let rest = c.loop-rest.rest.now in
    none_more record_bytes IsRecord 7 seven_some length-record c.args.bytes.now rest c.loop-rest.records.items c.loop-rest.invariant
    (cut_row record_bytes IsRecord 7 seven_some length-record rest c.in_default.len_below (some_left _ c.if-is_empty.ensures))
