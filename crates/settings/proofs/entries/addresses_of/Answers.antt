use Rattle.std.proofs.Common.{◌≡◌, None, Some, Option, subst, sym, List, take, ◌+◌}
use Rattle.toml.specs.View.{items_view}
use Rattle.settings.specs.Words.{Address, AreAddresses}
use Rattle.settings.proofs.Members.{addresses_turn, no_addresses}
use Rattle.settings.proofs.entries.addresses_of.Goals as goal

pub returns-in-None : goal.returns-in-None
returns-in-None c = λ addresses are.
    no_addresses c.args.values.now addresses c.loop-value.value-index c.value-item.result c.value-item.is c.loop-value-test.true
    (λ a is. let none : ◌≡◌ {A = Option Address} None (Some a) = c.in-None.ensures.exact a is in cc) are

pub loop-value-preserved : goal.loop-value-preserved
loop-value-preserved c =
    let e = c.in_ok-push-in-Some.ensures.items in
    subst (λ (l : List Address). AreAddresses (items_view (take (c.loop-value.value-index + 1) c.args.values.now)) l) (sym e)
    (addresses_turn c.args.values.now c.loop-value.addresses.items c.loop-value.value-index c.value-item.result c.in-Some.address
    c.value-item.is c.loop-value-test.true c.loop-value.invariant c.in-Some.ensures.some)
