use Rattle.std.proofs.Common.{rules, ◌≡◌, subst, get_or}
use Rattle.toml.specs.declared.value.Value.{Value}
use Rattle.commands.specs.Asked.{NamesNone, NamesOne}
use Rattle.commands.proofs.Asking.{first_at, one_more}
use Rattle.commands.proofs.asked.first_none.Goals as goal

pub returns-then-not-names_one : goal.returns-then-not-names_one
returns-then-not-names_one c =
    let v : Value = c.index-values-index.result in
    first_at v c.args.values.now c.loop-index.index c.loop-index-test.true c.loop-index.invariant
    (subst (λ (x : Value). NamesNone x) c.index-values-index.is (c.names_one.ensures.no c.if-not-names_one.true))

pub loop-index-preserved : goal.loop-index-preserved
loop-index-preserved c =
    let v : Value = c.index-values-index.result in
    one_more v c.args.values.now c.loop-index.index c.loop-index-test.true c.loop-index.invariant
    (subst (λ (x : Value). NamesOne x) c.index-values-index.is (c.names_one.ensures.yes c.if-not-names_one.false))
