use Rattle.std.proofs.Common.{◌++◌, ◌∷◌, [], take, List, sym, ap, ◌∙◌}
use Rattle.terms_prelude.specs.Terms.{Record, Statement}
use Rattle.report.specs.Charts.{statements_said}
use Rattle.report.proofs.Charting.{statements_more, not_said, behind}
use Rattle.report.proofs.chart.column.add_statements.Goals.{in-Said+in_ok-push, in_default}
use Rattle.report.proofs.chart.column.add_statements.Goals as goal

pub loop-record-preserved : goal.loop-record-preserved
loop-record-preserved c =
    let i = c.loop-record.record-index in
    let before = c.args.said.now.items in
    let more = statements_more c.args.saved.now i c.record-item.result c.record-item.result c.loop-record-test.true (sym c.record-item.is) in
    let so_far : List Statement = before ++ statements_said (take i c.args.saved.now) in
    elim c.match-record.branch [
      | in-Said+in_ok-push w ↦
          ap (λ v. v.items) w.said-is ∙ w.in_ok-push.ensures.items
          ∙ ap (λ (l : List Statement). l ++ w.in-Said.statement ∷ []) c.loop-record.invariant
          ∙ ap (λ (r : Record). so_far ++ statements_said (r ∷ [])) (sym w.in-Said.is)
          ∙ behind before (statements_said (take i c.args.saved.now)) _ _ more
      | in_default w ↦
          ap (λ v. v.items) w.said-is ∙ c.loop-record.invariant
          ∙ sym (not_said c.record-item.result so_far w.in_default.not-Said)
          ∙ behind before (statements_said (take i c.args.saved.now)) _ _ more
    ]
