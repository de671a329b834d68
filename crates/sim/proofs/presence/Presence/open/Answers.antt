use Rattle.std.proofs.Common.{◌∙◌, [], sym, subst, ap, refl}
use Rattle.world.specs.World.{IsCorrect}
use Rattle.terms_prelude.specs.Terms.{Header}
use Rattle.disk.specs.Memory.{memory_state}
use Rattle.member.specs.Stands.{IsLeft}
use Rattle.sim.specs.Words.{Presence, IsPresenceAt, IsFreshPresence, is_liar, mine}
use Rattle.sim.proofs.Moves.{reopened}
use Rattle.sim.proofs.presence.Presence.open.Goals as goal

pub returns-in-None-clause-side : goal.returns-in-None-clause-side
returns-in-None-clause-side c = ap is_liar c.replace.ensures.after ∙ sym c.in-None.ensures.side ∙ ap is_liar c.replace.ensures.value

pub returns-in-None-clause-moved : goal.returns-in-None-clause-moved
returns-in-None-clause-moved c size liars p w batch correct is doubt at =
    absurd (c.in-None.ensures.parts (mine size p) w (subst (λ (x : Presence). IsPresenceAt (mine size p) w x) (sym c.replace.ensures.value) at))

pub returns-in-None-clause-begun : goal.returns-in-None-clause-begun
returns-in-None-clause-begun c fresh =
    c.in-None.ensures.fresh c.args.header.now (subst (λ (x : Presence). IsFreshPresence c.args.header.now x) (sym c.replace.ensures.value) fresh)

pub returns-in-Ok-clause-moved : goal.returns-in-Ok-clause-moved
returns-in-Ok-clause-moved c size liars p w batch correct is doubt at =
    let parts = c.in-Some.ensures.parts (mine size p) w (subst (λ (x : Presence). IsPresenceAt (mine size p) w x) (sym c.replace.ensures.value) at) in
    let correct_here = subst (λ (h : Header). IsCorrect h.size liars h.me) (sym is) correct in
    let left = subst (λ (h : Header). IsLeft (memory_state c.in-Some.parts.0) h (w.journal h.me) (w.doubt h.me)) (sym is) parts.1 in
    reopened size liars p w c.args.fused c.args.header.now c.in-Ok.member is (c.in-Ok.ensures.restart.restart liars w correct_here tt left)

pub returns-in-Ok-clause-begun : goal.returns-in-Ok-clause-begun
returns-in-Ok-clause-begun c fresh =
    c.in-Ok.ensures.restart.first tt (c.in-Some.ensures.fresh c.args.header.now (subst (λ (x : Presence). IsFreshPresence c.args.header.now x) (sym c.replace.ensures.value) fresh))

pub returns-in-Err-Device-default-clause-moved : goal.returns-in-Err-Device-default-clause-moved
returns-in-Err-Device-default-clause-moved c size liars p w batch correct is doubt at =
    let parts = c.in-Some.ensures.parts (mine size p) w (subst (λ (x : Presence). IsPresenceAt (mine size p) w x) (sym c.replace.ensures.value) at) in
    let left = subst (λ (h : Header). IsLeft (memory_state c.in-Some.parts.0) h (w.journal p) (w.doubt p)) (sym is) parts.1 in
    let kept = subst (λ (h : Header). IsLeft (memory_state c.in-Err-Device-default.disk) h (w.journal p) (w.doubt p)) is
    (c.in-Err-Device-default.ensures.fault.left tt (w.journal p) (w.doubt p) left) in
    record {
      steps = [];
      is = (c.if-fused.true, refl);
      is_run = tt;
      at = record { batch = batch; doubt = doubt; saved = parts.0; left = kept };
    }
