use Rattle.std.proofs.Common.{◌∙◌, ◌-◌, ◌+◌, ap, sym, refl, rules, arith}
use Rattle.std.proofs.lemmas.Slice.Zip.{length-zip}
use Rattle.epochs.specs.Asking.{tested_at}
use Rattle.epochs.specs.Asks.{standing, stays}
use Rattle.epochs.proofs.Standing.{passed_from-all}
use Rattle.epochs.proofs.Forgetting.{one_more}
use Rattle.epochs.proofs.asks.Asks.forget.Goals as goal

pub loop-done-init : goal.loop-done-init
loop-done-init c =
    let asks = c.args.self.now in
    let size = length-zip asks.list.items asks.heard.items in
    let ok = asks.list.ok.0 in
    record {
      within = omega (arith, c.len-count.ensures, ok);
      second = refl;
      asks = sym (passed_from-all (stays c.args.gone) (standing asks) _ (omega (arith, c.len-count.ensures, size, asks.paired, ok)));
    }

pub loop-done-preserved : goal.loop-done-preserved
loop-done-preserved c =
    let asks = c.args.self.now in
    let size = length-zip asks.list.items asks.heard.items in
    let ok = asks.list.ok.0 in
    record {
      within = search rules;
      second = search rules;
      asks = one_more c.args.gone (standing asks) (standing c.loop-done.self) _ (c.len-count.result - c.loop-done.done) (c.len-count.result - (c.loop-done.done + 1)) (omega (arith, c.loop-done-test.true)) (omega (arith, c.loop-done-test.true, c.len-count.ensures, size, asks.paired, ok)) c.loop-done.invariant.asks (c.forget_at.ensures.asks ∙ ap (λ at. tested_at (stays c.args.gone) at (standing c.loop-done.self)) (omega (arith, c.loop-done-test.true)));
    }
