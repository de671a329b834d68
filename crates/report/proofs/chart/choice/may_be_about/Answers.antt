use Rattle.std.proofs.Common.{rules, refl, subst, Option, IfSome}
use Rattle.terms_prelude.specs.Terms.{Statement}
use Rattle.report.specs.Charts.{IsFrameOf}
use Rattle.report.proofs.Lying.{one_frame}
use Rattle.report.proofs.chart.choice.may_be_about.Goals as goal

pub returns-in-Some : goal.returns-in-Some
returns-in-Some c =
    let size = c.args.size in
    let frame : IsFrameOf size c.args.bytes.now c.in-Some.statement =
    subst (λ (found : Option Statement). IfSome found (IsFrameOf size c.args.bytes.now)) c.in-Some.is c.in_ok-statement.ensures.some in (
      (λ so s it. search (rules, so, one_frame size c.args.bytes.now c.in-Some.statement s c.recall.ensures frame it)),
      (λ all. search (rules, all c.in-Some.statement frame)),
    )

pub returns-in-None : goal.returns-in-None
returns-in-None c = ((λ so s frame. absurd (c.in_ok-statement.ensures.none c.in-None.is s frame)), (λ all. refl))
