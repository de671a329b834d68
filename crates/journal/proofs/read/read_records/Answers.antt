use Rattle.std.proofs.Common.{inr, refl, ◌∙◌, arith}
use Rattle.journal.proofs.Steps.{all_added, halves, odd_record}
use Rattle.journal.proofs.read.read_records.Goals as goal

pub returns-in_default-clause-refused : goal.returns-in_default-clause-refused
returns-in_default-clause-refused g c =
    let rest = c.loop-rest.rest.now in
    let front = c.split_at.result.0.now in
    let after = c.split_at.result.1.now in
    inr (
      refl,
      odd_record g.L.Layout.spelling c.width-width.ensures.each c.args.header.now c.args.bytes.now rest front after c.args.records.now.items c.loop-rest.records.items c.args.count c.loop-rest.invariant c.requires
          (halves c.width-width.result rest front after c.split_at.ensures.front c.split_at.ensures.back) (c.split_at.ensures.front_len ∙ c.width-width.ensures.width) (c.in_default.ensures.none refl),
    )

pub returns-clause-added : goal.returns-clause-added
returns-clause-added g c =
    all_added g.L.Layout.spelling c.width-width.ensures.each c.args.header.now c.args.bytes.now c.loop-rest.rest.now c.args.records.now.items c.loop-rest.records.items c.args.count c.loop-rest.invariant c.requires
    (omega (arith, c.loop-rest-test.false, c.width-width.ensures.width))
