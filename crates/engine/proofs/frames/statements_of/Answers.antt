use Rattle.std.proofs.Common.{refl}
use Rattle.statement_codec.specs.Statements.{statement_bytes}
use Rattle.engine.specs.Texts.{IsStatement}
use Rattle.engine.proofs.Rows.{none_more, odd_row, cut_row}
use Rattle.engine.proofs.Seven.{seven_of, split_seven, length-statement, seven_some, some_left}
use Rattle.engine.proofs.frames.statements_of.Goals as goal

pub returns-in_default-statement_of-clause-bad : goal.returns-in_default-statement_of-clause-bad
returns-in_default-statement_of-clause-bad c is =
    let rest = c.loop-rest.rest.now in
    let long = c.in-len7-up.len_at_least in
    none_more statement_bytes IsStatement 7 seven_some length-statement c.args.bytes.now rest c.loop-rest.all.items c.loop-rest.invariant
    (odd_row statement_bytes IsStatement 7 seven_some length-statement rest (seven_of rest) long (split_seven rest long) refl (c.in_default-statement_of.ensures.none refl))

pub returns-else-is_empty-clause-bad : goal.returns-else-is_empty-clause-bad
returns-else-is_empty-clause-bad c is =
    let rest = c.loop-rest.rest.now in
    none_more statement_bytes IsStatement 7 seven_some length-statement c.args.bytes.now rest c.loop-rest.all.items c.loop-rest.invariant
    (cut_row statement_bytes IsStatement 7 seven_some length-statement rest c.in_default.len_below (some_left _ c.if-is_empty.ensures))
