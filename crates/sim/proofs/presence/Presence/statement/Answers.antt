use Rattle.std.proofs.Common.{◌≡◌, ◌<◌, ◌≤◌, Some, List, length, get_or, sym, ap, subst, ◌∙◌}
use Rattle.terms_prelude.specs.Terms.{Statement}
use Rattle.member.specs.declared.sealed.Sealed.{Sealed}
use Rattle.member.specs.Words.{sealed_from, member_saved}
use Rattle.sim.specs.Words.{Presence, nth_said, saved_in}
use Rattle.sim.proofs.Numbers.{nth_sealed, nth_none}
use Rattle.sim.proofs.presence.Presence.statement.Goals as goal

pub returns-then-index-outbox-clause-said : goal.returns-then-index-outbox-clause-said
returns-then-index-outbox-clause-said c =
    let within : c.args.number < length (sealed_from 0 (member_saved c.in-Here.member)) = subst (λ (l : List Sealed). c.args.number < length l) c.outbox-outbox.ensures c.if-index-outbox.true in
    let at : c.index-outbox-index.result ≡ get_or (sealed_from 0 (member_saved c.in-Here.member)) c.args.number c.index-outbox-index.result =
    c.index-outbox-index.is ∙ ap (λ (l : List Sealed). get_or l c.args.number c.index-outbox-index.result) c.outbox-outbox.ensures in
    ap (λ (s : Statement). Some s) (c.statement.ensures ∙ ap (λ (x : Sealed). x.statement) at)
    ∙ sym (nth_sealed (member_saved c.in-Here.member) 0 c.args.number c.index-outbox-index.result within)
    ∙ ap (λ (x : Presence). nth_said (saved_in x) c.args.number) (sym c.in-Here.is)

pub returns-else-index-outbox-clause-said : goal.returns-else-index-outbox-clause-said
returns-else-index-outbox-clause-said c =
    let past : length (sealed_from 0 (member_saved c.in-Here.member)) ≤ c.args.number = subst (λ (l : List Sealed). length l ≤ c.args.number) c.outbox-outbox.ensures c.if-index-outbox.false in
    sym (nth_none (member_saved c.in-Here.member) 0 c.args.number past) ∙ ap (λ (x : Presence). nth_said (saved_in x) c.args.number) (sym c.in-Here.is)
