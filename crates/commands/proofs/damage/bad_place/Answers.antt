use Rattle.std.proofs.Common.{rules, inr}
use Rattle.journal.specs.File.{HasHeader}
use Rattle.commands.specs.Damage.{IsBadRecord, IsGoodEnd}
use Rattle.commands.proofs.damage.bad_place.Goals as goal

pub returns-in-Some-2 : goal.returns-in-Some-2
returns-in-Some-2 c =
    let file = c.args.file.now in
    let end = c.in_ok-end.end in
    let header = c.in-Some.header in
    let good : IsGoodEnd file end = record { good = c.in_ok-end.ensures.good; none = c.in_ok-end.ensures.none } in
    let has : HasHeader header file = search (rules, c.in_ok-header.ensures.some, c.in-Some.is) in
    let bad : IsBadRecord header end file c.in-Some-2.place = search (rules, c.in_ok-place.ensures, c.in-Some-2.is) in
    inr (end, header, good, has, bad)
