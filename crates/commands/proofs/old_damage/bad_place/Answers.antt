use Rattle.std.proofs.Common.{rules, inr}
use Rattle.migration.specs.Old.{HasOldHeader}
use Rattle.commands.specs.OldDamage.{IsOldBadRecord, IsOldGoodEnd}
use Rattle.commands.proofs.old_damage.bad_place.Goals as goal

pub returns-in-Some-2 : goal.returns-in-Some-2
returns-in-Some-2 c =
    let file = c.args.file.now in
    let end = c.in_ok-end.end in
    let header = c.in-Some.header in
    let good : IsOldGoodEnd file end = record { good = c.in_ok-end.ensures.good; none = c.in_ok-end.ensures.none } in
    let has : HasOldHeader header file = search (rules, c.in_ok-header.ensures.some, c.in-Some.is) in
    let bad : IsOldBadRecord header end file c.in-Some-2.place = search (rules, c.in_ok-place.ensures, c.in-Some-2.is) in
    inr (end, header, good, has, bad)
