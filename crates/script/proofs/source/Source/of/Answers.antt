use Rattle.std.proofs.Common.{◌≡◌, refl, ap₂, ◌∙◌, subst, ◌⊎◌}
use Rattle.std.proofs.lemmas.Result.{err_from_is_err_and}
use Rattle.script.specs.declared.fault.ScriptFault.TheVariants as faults
use Rattle.script.specs.Words.{Page, numbered, IsHeadFault, at_start, correct_below}
use Rattle.script.proofs.Heads.{in_head, in_events_of}
use Rattle.script.proofs.source.Source.of.Goals as goal

pub returns-in_err-size-clause-fault : goal.returns-in_err-size-clause-fault
returns-in_err-size-clause-fault c =
    let fault = c.in_err-size.field-0.0 in
    let p = err_from_is_err_and c.from_residual-in_err-size.result c.from_residual-in_err-size.ensures.1 in
    rw (p.1, p.2) (in_head c.args.text.now fault
    (subst (λ (page : Page). (fault ≡ faults.Memory) ⊎ IsHeadFault page fault) c.in_ok-lines.ensures c.in_err-size.ensures.err))

pub returns-in_err-orders-clause-fault : goal.returns-in_err-orders-clause-fault
returns-in_err-orders-clause-fault c =
    let p = err_from_is_err_and c.from_residual-in_err-orders.result c.from_residual-in_err-orders.ensures.1 in
    let head = c.in_ok-size.field-0 in
    rw (p.1, p.2) (in_events_of c.args.text.now c.in_err-orders.field-0.0 head.size head.liars.items head.seed
    c.in_ok-lines.lines c.deref-2.result.now (at_start head.seed) (numbered c.behind.result.now)
    c.in_ok-lines.ensures
    (c.deref-2.ensures.value ∙ (c.in_ok-correct.ensures ∙ ap₂ correct_below c.n.ensures.value c.deref.ensures.value))
    refl
    c.behind.ensures
    c.in_ok-size.ensures.ok
    (c.in_err-orders.ensures.err head.size (at_start head.seed) refl))
