use Rattle.std.proofs.Common.{rules, ◌++◌, ◌∷◌, [], take, List, ℕ, sym, ap, ◌∙◌, codes, string_bytes, append-nil}
use Rattle.terms_prelude.specs.Terms.{Record}
use Rattle.report.specs.Pictures.{decisions, listed}
use Rattle.report.proofs.Picturing.{decisions_more, not_decided}
use Rattle.report.proofs.chart.decided_text.Goals.{in-Decided+in_ok-decision+in_ok-add_part, in_default}
use Rattle.report.proofs.chart.decided_text.Goals as goal

pub loop-record-preserved : goal.loop-record-preserved
loop-record-preserved c =
    let q = c.args.questions in
    let i = c.loop-record.record-index in
    let so_far : List (List ℕ) = decisions q (take i c.args.saved.now) in
    let more = decisions_more q c.args.saved.now i c.record-item.result c.record-item.result c.loop-record-test.true (sym c.record-item.is) in
    elim c.match-record.branch [
      | in-Decided+in_ok-decision+in_ok-add_part w ↦
          ap (λ s. string_bytes s) w.text-is
          ∙ w.in_ok-add_part.ensures so_far (search rules) (search (rules, c.loop-record.invariant))
          ∙ ap (λ (part : List ℕ). listed (codes "decides") (so_far ++ part ∷ [])) (w.as_str.ensures.value ∙ w.in_ok-decision.ensures)
          ∙ ap (λ (r : Record). listed (codes "decides") (so_far ++ decisions q (r ∷ []))) (sym w.in-Decided.is)
          ∙ ap (listed (codes "decides")) (sym more)
      | in_default w ↦
          ap (λ s. string_bytes s) w.text-is ∙ c.loop-record.invariant
          ∙ ap (listed (codes "decides")) (sym (more ∙ ap (λ (l : List (List ℕ)). so_far ++ l) (not_decided q c.record-item.result w.in_default.not-Decided) ∙ append-nil so_far))
    ]
