use Rattle.std.proofs.Common.{ℕ, ◌≡◌, rules, subst, sym}
use Rattle.wire.specs.Texts.{frame_bytes}
use Rattle.links.specs.Greeting.{hello_from}
use Rattle.links.specs.Told.{has_read}
use Rattle.links.specs.Net.{told_net}
use Rattle.running.proofs.shared.Shared.seated.Goals as goal

pub returns-in-Some-clause-hello : goal.returns-in-Some-clause-hello
returns-in-Some-clause-hello g c =
    let same : c.in-Some.seated.seat.peer ≡ c.in-Ok.greeted.0.peer = search (rules, c.in-Some.ensures.peer) in
    subst (λ (p : ℕ). told_net c.greeted.new.stream.stream ≡ has_read (told_net c.args.stream.now.stream) (frame_bytes (hello_from c.args.self.now.hub c.in-Ok.greeted.1 p)))
    (sym same) c.in-Ok.ensures.hello
