use Rattle.std.proofs.Common.{◌≡◌, arith, sym, ap, subst, ◌∙◌, ◌+◌, get_or, set}
use Rattle.std.proofs.lemmas.List.{get_or_default}
use Rattle.rbc.specs.Words.{AreNamed, Cell, no_cell, spot_at}
use Rattle.rbc.proofs.Touching.{few_cells, one_named}
use Rattle.rbc.proofs.table.name_all.Goals as goal

pub name-requires : goal.name-requires
name-requires c = omega (arith, few_cells c.args.cells.now c.requires, c.loop-number-test.true)

pub loop-number-init : goal.loop-number-init
loop-number-init c = λ k below within. absurd (omega (arith, below))

pub loop-number-preserved : goal.loop-number-preserved
loop-number-preserved c =
    let spot : get_or c.args.cells.now c.loop-number.number _ ≡ get_or c.args.cells.now c.loop-number.number no_cell =
    get_or_default c.args.cells.now c.loop-number.number _ no_cell c.loop-number-test.true in
    let is : c.name.new.numbers.items ≡ set c.loop-number.numbers.items (spot_at c.args.cells.now c.loop-number.number) c.loop-number.number =
    c.name.ensures ∙ ap (λ (x : Cell). set c.loop-number.numbers.items x.spot c.loop-number.number) spot in
    subst (λ n. AreNamed n c.args.cells.now (c.loop-number.number + 1)) (sym is)
    (one_named c.loop-number.numbers.items c.args.cells.now c.loop-number.number c.requires c.loop-number-test.true c.loop-number.invariant)

pub returns : goal.returns
returns c = record {
  apart = c.requires;
  named = λ k lt within. c.loop-number.invariant k (omega (arith, lt, c.loop-number-test.false)) within;
}
