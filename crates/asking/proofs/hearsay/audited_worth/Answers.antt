use Rattle.std.proofs.Common.{rules, arith, ℕ, ◌<◌, ◌≤◌, ◌^◌, inr, refl, subst, sym, Some}
use Rattle.asking.proofs.Proving.{worth_is}
use Rattle.asking.specs.Hearsay.{IsWorthOfReply}
use Rattle.asking.specs.declared.hearsay.Worth.{Worth}
use Rattle.asking.proofs.hearsay.audited_worth.Goals as goal

pub returns-in-Ok : goal.returns-in-Ok
returns-in-Ok c =
    let size = c.args.size in
    let text = c.args.reply.now in
    let few : size.questions ≤ 4096 = search (rules, c.recall.ensures) in
    let small : c.args._question < 2 ^ 16 = first_of (search (rules, c.ranges._question), grind (arith, c.ranges._question)) in
    subst (λ (w : Worth). IsWorthOfReply size c.args._question (Some text) w) (sym c.worth_by.ensures)
    (worth_is size text c.args._question c.args.bit c.in-Ok.status (Some c.new-verdict.result.items) (Some c.audit_text.new.output.items) few small c.requires c.in-Ok.ensures.all)

pub returns-in-Err-Line : goal.returns-in-Err-Line
returns-in-Err-Line c =
    let bad = rw c.in-Err-Line.field-0-is at c.in-Err-Line.ensures.line in
    ((c.args.bit, c.requires), inr (_, bad _ refl))
