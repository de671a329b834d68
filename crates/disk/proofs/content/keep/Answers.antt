-- The next byte is kept with its place.
use Rattle.std.proofs.Common.{rules, arith, ◌∙◌}
use Rattle.disk.proofs.Under.{kept_more}
use Rattle.disk.proofs.content.keep.Goals as goal

pub loop-i-preserved : goal.loop-i-preserved
loop-i-preserved c =
    let so_far = c.loop-i.invariant in (
      omega (arith, c.push_reserved.ensures.len, so_far.0),
      c.push_reserved.ensures.capacity ∙ so_far.1,
      kept_more c.args.at c.loop-i.i _ c.args.under.now.items c.loop-i.under.items _ c.args.bytes.now (search (rules, c.loop-i-test.true)) so_far.2 c.push_reserved.ensures.items,
    )
