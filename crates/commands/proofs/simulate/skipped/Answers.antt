use Rattle.std.proofs.Common.{◌∙◌, ap, arith, ◌≤◌}
use Rattle.numerals.specs.Sentences.{bit_digit}
use Rattle.report.proofs.Wording.{bit_of}
use Rattle.commands.proofs.Simulating.{bit_small, skipped_more, skipped_below}
use Rattle.commands.proofs.simulate.skipped.Goals as goal

pub overflow_add-count : goal.overflow_add-count
overflow_add-count c =
    let below : c.loop-mark.count ≤ c.loop-mark.mark-index =
    skipped_below c.args.marks.now c.loop-mark.mark-index c.loop-mark.count c.loop-mark-test.true c.loop-mark.invariant in
    let digit : c.from-count.result ≤ 1 = omega (arith, c.from-count.ensures ∙ bit_of c.is_skipped.result, bit_small c.is_skipped.result) in
    omega (arith, below, digit, c.loop-mark-test.true, c.loop-mark.end-fits)

pub loop-mark-preserved : goal.loop-mark-preserved
loop-mark-preserved c =
    skipped_more c.args.marks.now c.loop-mark.mark-index c.loop-mark.count c.from-count.result c.loop-mark-test.true
    (c.from-count.ensures ∙ bit_of c.is_skipped.result ∙ ap bit_digit c.is_skipped.ensures) c.loop-mark.invariant
