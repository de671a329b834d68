use Rattle.std.proofs.Common.{rules, ◌≡◌, sym, subst, List, length}
use Rattle.numerals.specs.Sentences.{texts}
use Rattle.std.proofs.Common.{take, ◌+◌}
use Rattle.settings.specs.declared.address.Address.{Address}
use Rattle.settings.specs.Clusters.{AreInRow}
use Rattle.settings.proofs.Linking.{host_at, next_link, within_ports}
use Rattle.settings.proofs.cluster.addresses_from.Goals as goal

pub loop-host-preserved : goal.loop-host-preserved
loop-host-preserved c =
    let as_many : c.len.result ≡ length c.loop-host.addresses.items = search (rules, c.len.ensures) in
    subst (λ (links : List Address). AreInRow c.args.first (texts (take (c.loop-host.host-index + 1) c.args.hosts.now)) links) (sym c.in_ok-push-in-Some.ensures.items)
    (next_link c.args.first c.args.hosts.now c.loop-host.host-index _ c.loop-host.addresses.items c.in-Some.address c.len.result c.loop-host-test.true
    c.loop-host.invariant c.in-Some.ensures.some.0 c.in-Some.ensures.some.1 as_many)

pub returns-in-None-clause-found : goal.returns-in-None-clause-found
returns-in-None-clause-found c = λ fit links are.
    let as_many : c.len.result ≡ length c.loop-host.addresses.items = search (rules, c.len.ensures) in
    let host = host_at c.args.first c.args.hosts.now c.loop-host.host-index _ links c.loop-host-test.true are in
    c.in-None.ensures.found
    (within_ports c.args.first c.args.hosts.now c.loop-host.host-index c.loop-host.addresses.items c.len.result c.loop-host-test.true fit c.loop-host.invariant as_many)
    host.0 host.1
