use Rattle.std.proofs.Common.{◌≡◌, refl, rules, sym}
use Rattle.links.specs.Net.{told_net}
use Rattle.running.proofs.Greeted.{greeted_by}
use Rattle.running.proofs.shared.Shared.greeted.Goals as goal

pub returns-in-Some-clause-hello : goal.returns-in-Some-clause-hello
returns-in-Some-clause-hello g c =
    let said : c.in-Some.sender.peer ≡ c.in-Ok.peer = search (rules, c.in-Some.ensures.peer) in
    greeted_by (told_net c.args.stream.now.stream) (told_net c.greet.new.stream.stream) c.args.self.now.hub c.header.result
    c.in-Ok.version c.in-Ok.version c.in-Some.sender.peer c.in-Ok.peer c.header.ensures.hub refl (sym said) c.in-Ok.ensures.ok
