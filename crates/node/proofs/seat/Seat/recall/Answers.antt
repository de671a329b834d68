use Rattle.std.proofs.Common.{◌≡◌, rules, subst}
use Rattle.node.specs.Words.{IsCounted, SeatView, firsts_of, said_by}
use Rattle.node.proofs.Counting.{form_of}
use Rattle.node.proofs.Handing.{firsts_again}
use Rattle.node.proofs.seat.Seat.recall.Goals as goal

pub returns : goal.returns
returns g c =
    let s = c.self.inside in
    let form = subst (λ (v : SeatView). firsts_of v.peer v.firsts ≡ v.firsts) c.self.view_is (form_of s.peer s.next s.firsts.said (said_by s.peer s.seen) (firsts_again s.peer) c.self.invariant) in
    let heard = subst (λ (v : SeatView). IsCounted v.peer v.next v.firsts (said_by v.peer v.log)) c.self.view_is c.self.invariant in
    search (rules, form, heard)
