use Rattle.std.proofs.Common.{refl, get_or, length, take, drop, ◌-◌}
use Rattle.script.specs.Orders.{texts}
use Rattle.script.proofs.Parts.{first_of}
use Rattle.script.proofs.step.crash.Goals as goal

pub returns-in-Some-2-clause-some : goal.returns-in-Some-2-clause-some
returns-in-Some-2-clause-some c =
    let p = rw c.in-Some-2.is at c.in_ok-pick.ensures.some in
    let m = c.in-Some.ensures.some in
    let ws = c.args.words.now in
    (c.in-Some.member, c.in-Some-2.pick, (get_or ws 0 _).now, texts (take (length ws - 1) (drop 1 ws)), first_of ws _ c.in-len1-up.len_at_least, m, p, refl)
