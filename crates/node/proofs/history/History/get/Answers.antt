use Rattle.std.proofs.Common.{rules, refl, sym, ap, ◌∙◌, ◌≡◌, ◌<◌, ◌≤◌, ◌+◌, ◌-◌, ◌++◌, length, slice_get, Some, arith, drop, ℕ}
use Rattle.std.proofs.lemmas.Option.{slice_get_read}
use Rattle.node.specs.Histories.{joined}
use Rattle.node.proofs.Blocks.{within_block, behind_block, length_left, none_left}
use Rattle.node.proofs.history.History.get.Goals as goal

pub returns-then-left-entries-clause-some : goal.returns-then-left-entries-clause-some
returns-then-left-entries-clause-some c =
    let count : length c.entries-entries.result.now ≡ length c.block-item.result = ap length c.entries-entries.ensures in
    let here : c.loop-block.left < length c.block-item.result = omega (arith, count, c.if-left-entries.true) in
    let found : slice_get c.entries-entries.result.now c.loop-block.left ≡ Some c.index-entries-left.result =
    slice_get_read c.entries-entries.result.now _ c.loop-block.left c.index-entries-left.result refl c.if-left-entries.true c.index-entries-left.is in
    sym c.loop-block.invariant.same ∙ within_block c.deref-block-items.result.now c.loop-block.block-index c.loop-block.left c.block-item.result c.self.inside.last.items c.block-item.is c.loop-block-test.true here
    ∙ ap (λ l. slice_get l c.loop-block.left) (sym c.entries-entries.ensures) ∙ found ∙ ap Some (sym c.entry.ensures)

pub loop-block-preserved : goal.loop-block-preserved
loop-block-preserved c =
    let count : length c.entries-entries.result.now ≡ length c.block-item.result = ap length c.entries-entries.ensures in
    let there : length c.block-item.result ≤ c.loop-block.left = omega (arith, count, c.if-left-entries.false) in
    let more = length_left c.deref-block-items.result.now c.loop-block.block-index c.block-item.result c.self.inside.last.items c.block-item.is c.loop-block-test.true in
    record {
      same = ap (λ (n : ℕ). slice_get (joined (drop (c.loop-block.block-index + 1) c.deref-block-items.result.now) ++ c.self.inside.last.items) (c.loop-block.left - n)) count
          ∙ behind_block c.deref-block-items.result.now c.loop-block.block-index c.loop-block.left c.block-item.result c.self.inside.last.items c.block-item.is c.loop-block-test.true there
          ∙ c.loop-block.invariant.same;
      short = omega (arith, count, there, more, c.loop-block.invariant.short);
    }

pub returns-then-left-len-clause-some : goal.returns-then-left-len-clause-some
returns-then-left-len-clause-some c =
    let here : c.loop-block.left < length c.self.inside.last.items = search (rules) in
    let found : slice_get c.self.inside.last.items c.loop-block.left ≡ Some c.index.result.now =
    slice_get_read c.self.inside.last.items _ c.loop-block.left c.index.result.now refl here c.index.ensures in
    sym c.loop-block.invariant.same ∙ none_left c.deref-block-items.result.now c.loop-block.block-index c.loop-block.left c.self.inside.last.items (search (rules)) ∙ found ∙ ap Some (sym c.entry-then-left-len.ensures)
