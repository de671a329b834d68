use Rattle.std.proofs.Common.{rules, ◌≡◌, ◌+◌, refl}
use Rattle.disk.proofs.Placing.{reads_on}
use Rattle.disk.proofs.named.read_whole.Goals as goal

pub loop-done-preserved : goal.loop-done-preserved
loop-done-preserved g c =
    let place : c.in-Some.place ≡ c.args.at + c.loop-done.done = search (rules, c.in-Some.ensures, c.checked_add.ensures, c.in-Some.is) in
    reads_on _ _ _ c.args.at c.loop-done.done c.in-Some.place c.in_ok-count.count _ c.loop-done.buf c.read_some.new.buf c.loop-done.invariant place refl c.in_ok-count.ensures.within (search rules) c.in_ok-count.ensures.ok
