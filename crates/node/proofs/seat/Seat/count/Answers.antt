use Rattle.std.proofs.Common.{◌≡◌, ◌≤◌, ◌∷◌, ◌++◌, [], ◌∙◌, sym, ap, subst, refl, true, List, ℕ, length, length-append, rules, arith}
use mathlib.Core.List.{IsPrefix}
use Rattle.terms_prelude.specs.Terms.{Statement}
use Rattle.node.specs.Lines.{WasHeard}
use Rattle.node.specs.Parts.{IsPartOf}
use Rattle.node.specs.Words.{Group, HandsIn, IsCounted, SeatView, counted, grown, heard_from, said_by, said_in}
use Rattle.node.proofs.Counting.{counts, form_of}
use Rattle.node.proofs.Fronts.{front_of_longer}
use Rattle.node.proofs.Handing.{all_handed, firsts_again}
use Rattle.node.proofs.seat.Seat.count.Goals as goal

pub invariant_of-self-2 : goal.invariant_of-self-2
invariant_of-self-2 g c =
    let w = c.requires in
    let peer = c.self.inside.peer in
    let events = c.args.events.now in
    let long : c.is_longer.result ≡ true = search rules in
    let is = c.is_longer.ensures long in
    let ends : length c.args.after ≡ length (w.base ++ w.group ∷ []) = ap (λ (l : List Group). length l) w.ends in
    let less : length c.self.inside.seen ≤ length w.base = omega (arith, is.1, ends, length-append w.base (w.group ∷ [])) in
    let begins : IsPrefix c.self.inside.seen w.base = front_of_longer c.self.inside.seen w.base c.args.after is.0 (w.group ∷ [], sym w.ends) less in
    let firsts : c.keep_all.new.firsts.said ≡ grown peer c.self.inside.firsts.said (said_in events) = c.keep_all.ensures ∙ ap (λ (l : List Statement). grown peer l (said_in events)) c.make_room.ensures.said in
    let next : c.saturating_add-self-inside.result ≡ counted c.self.inside.next (length events) = search (rules, c.saturating_add-self-inside.ensures) in
    let heard : WasHeard (heard_from peer events) c.args.after =
    record { base = w.base; group = w.group; ends = w.ends; part = subst (λ (v : SeatView). IsPartOf (heard_from v.peer events) w.group) (sym c.self.view_is) w.part } in
    subst (λ (n : ℕ). IsCounted peer n c.keep_all.new.firsts.said (said_by peer c.args.after)) (sym next)
    (subst (λ (l : List Statement). IsCounted peer (counted c.self.inside.next (length events)) l (said_by peer c.args.after)) (sym firsts)
    (counts peer c.self.inside.next c.self.inside.firsts.said events c.self.inside.seen c.args.after c.self.invariant heard begins))

pub returns-clause-counted : goal.returns-clause-counted
returns-clause-counted g c =
    let peer = c.self.inside.peer in
    let events = c.args.events.now in
    let long : c.is_longer.result ≡ true = search rules in
    let firsts : c.keep_all.new.firsts.said ≡ grown peer c.self.inside.firsts.said (said_in events) = c.keep_all.ensures ∙ ap (λ (l : List Statement). grown peer l (said_in events)) c.make_room.ensures.said in
    let next : c.saturating_add-self-inside.result ≡ counted c.self.inside.next (length events) = search (rules, c.saturating_add-self-inside.ensures) in
    let form = form_of peer c.self.inside.next c.self.inside.firsts.said (said_by peer c.self.inside.seen) (firsts_again peer) c.self.invariant in
    subst (λ (v : SeatView). HandsIn v (record { peer = peer; next = c.saturating_add-self-inside.result; firsts = c.keep_all.new.firsts.said; log = c.args.after }) (said_in events) (length events)) c.self.view_is
    (all_handed _ peer c.saturating_add-self-inside.result (length events) c.keep_all.new.firsts.said (said_in events) c.args.after (c.is_longer.ensures long).0 form refl next firsts)
