use Rattle.std.proofs.Common.{◌+◌, sym, ap, ◌∙◌, drop}
use Rattle.std.specs.List.{flat_map}
use Rattle.script.specs.Making.{Made, adds, row}
use Rattle.script.proofs.Counting.{round-next}
use Rattle.script.proofs.making.Making.add_round.Goals as goal

pub loop-from-preserved : goal.loop-from-preserved
loop-from-preserved c =
    let i = c.loop-from.from-index in
    let ms = c.args.members.now in
    ap (λ (m : Made). adds (flat_map (λ from. row from ms) (drop (i + 1) ms)) m) c.in_ok-add_row.ensures.ok
    ∙ (sym (round-next ms i c.loop-from.self c.loop-from-test.true) ∙ c.loop-from.invariant)
