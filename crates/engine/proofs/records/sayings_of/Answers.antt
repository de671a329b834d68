use Rattle.std.proofs.Common.{List, ℕ, ◌∷◌, get_or, drop, refl, ap}
use Rattle.engine.specs.Texts.{saying_bytes, IsSaying}
use Rattle.engine.proofs.Rows.{none_more, odd_row, cut_row}
use Rattle.engine.proofs.Seven.{behind_one, split_eight, length-saying, eight_some, some_left}
use Rattle.engine.proofs.records.sayings_of.Goals as goal

pub returns-in_default-statement_of-clause-bad : goal.returns-in_default-statement_of-clause-bad
returns-in_default-statement_of-clause-bad c is =
    let rest = c.loop-rest.rest.now in
    let long = c.in-len8-up.len_at_least in
    none_more saying_bytes IsSaying 8 eight_some length-saying c.args.bytes.now rest c.loop-rest.sayings.items c.loop-rest.invariant
    (odd_row saying_bytes IsSaying 8 eight_some length-saying rest (get_or rest 0 0 ∷ behind_one rest) long (split_eight rest long) refl
    (λ e lawful same. c.in_default-statement_of.ensures.none refl e.1 lawful (ap (λ (l : List ℕ). drop 1 l) same)))

pub returns-else-is_empty-clause-bad : goal.returns-else-is_empty-clause-bad
returns-else-is_empty-clause-bad c is =
    let rest = c.loop-rest.rest.now in
    none_more saying_bytes IsSaying 8 eight_some length-saying c.args.bytes.now rest c.loop-rest.sayings.items c.loop-rest.invariant
    (cut_row saying_bytes IsSaying 8 eight_some length-saying rest c.in_default.len_below (some_left _ c.if-is_empty.ensures))
