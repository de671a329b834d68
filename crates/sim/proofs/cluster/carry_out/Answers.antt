use Rattle.std.proofs.Common.{Result, IfOk, ◌∙◌, ◌<◌, ◌^◌, arith, ℕ, refl, sym, ap, subst, List, length, drop, get_or}
use Rattle.std.proofs.lemmas.Result.{err_from_is_err_and}
use Rattle.terms_prelude.specs.Terms.{Record}
use Rattle.sim.specs.Posts.{HasSender}
use Rattle.sim.specs.declared.events.Reason.{Reason}
use Rattle.sim.specs.declared.tasks.Instruction.{Instruction}
use Rattle.sim.specs.Words.{saved_in, IsPost}
use Rattle.sim.proofs.Planned.{plan_right}
use Rattle.sim.proofs.Turn.{turned, skipped_turn}
use Rattle.sim.proofs.Playing.{saved_there, few_behind}
use Rattle.sim.proofs.cluster.carry_out.Goals as goal

pub returns-in_ok-mark-in-Ok-clause-turn : goal.returns-in_ok-mark-in-Ok-clause-turn
returns-in_ok-mark-in-Ok-clause-turn c liars s lawful steady cluster planned =
    let plan = sym planned ∙ c.in-Ok.is in
    let right = plan_right c.args.size liars s steady c.in-Ok.to c.in-Ok.task c.args.event.now plan in
    let below : c.in-Ok.to < length c.args.posts.now = omega (arith, right.below, c.requires.ready.count) in
    turned c.args.size liars s c.args.event.now c.in-Ok.to c.in-Ok.task c.bytes_in.result.now c.from.result c.in_ok-mark-in-Ok.mark _ c.args.posts.now c.index-posts-from.result c.carry.new.self
    lawful c.from.ensures c.bytes_in.ensures c.requires.ready.count plan right cluster
    (λ sized below post fits. c.in_ok-mark-in-Ok.ensures.done c.args.size liars s c.in-Ok.to sized below post fits (c.in_ok-group-in-Ok.ensures.brings liars s cluster right.fits))
    (saved_there c.args.posts.now c.from.result c.in-Ok.to c.carry.new.self (length c.records-before.result.now) c.from.ensures below
    ∙ ap (λ (l : List Record). drop (length l) (saved_in c.carry.new.self.presence)) c.records-before.ensures)

pub returns-in_ok-mark-in-Ok-clause-room : goal.returns-in_ok-mark-in-Ok-clause-room
returns-in_ok-mark-in-Ok-clause-room c =
    let within = subst (λ (p : Result (ℕ × Instruction) Reason). IfOk p (λ to. (to.0 < c.args.size.n) × HasSender c.args.size.n to.1)) c.in-Ok.is c.requires.within in
    let below : c.in-Ok.to < length c.args.posts.now = omega (arith, within.0, c.requires.ready.count) in
    let few : length c.records-after.result.now < 2 ^ 63 = omega arith in
    subst (λ (l : List Record). length l < 2 ^ 63)
    (sym (saved_there c.args.posts.now c.from.result c.in-Ok.to c.carry.new.self (length c.records-before.result.now) c.from.ensures below))
    (few_behind (saved_in c.carry.new.self.presence) (length c.records-before.result.now) (subst (λ (l : List Record). length l < 2 ^ 63) c.records-after.ensures few))

pub returns-in-Err-clause-turn : goal.returns-in-Err-clause-turn
returns-in-Err-clause-turn c liars s lawful steady cluster planned =
    skipped_turn c.args.size liars s c.args.event.now c.in-Err.reason _ c.args.posts.now (sym planned ∙ c.in-Err.is) refl cluster

pub returns-in_err-mark-in-Ok-clause-memory : goal.returns-in_err-mark-in-Ok-clause-memory
returns-in_err-mark-in-Ok-clause-memory c liars s lawful steady cluster planned =
    let plan = sym planned ∙ c.in-Ok.is in
    let right = plan_right c.args.size liars s steady c.in-Ok.to c.in-Ok.task c.args.event.now plan in
    let made = err_from_is_err_and c.from_residual-in_err-mark-in-Ok.result c.from_residual-in_err-mark-in-Ok.ensures.1 in
    rw (made.1, made.2) (c.in_err-mark-in-Ok.ensures.memory c.args.size liars s c.in-Ok.to lawful right.below
    (subst (λ (i : ℕ). IsPost c.args.size liars s c.in-Ok.to (get_or c.args.posts.now i c.index-posts-from.result)) (sym c.from.ensures) (cluster c.in-Ok.to c.index-posts-from.result right.below))
    right.fits (c.in_ok-group-in-Ok.ensures.brings liars s cluster right.fits) steady.may)
