use Rattle.std.proofs.Common.{◌≡◌, ◌+◌, ◌==◌, List, sym, subst}
use Rattle.std.specs.List.{list_any}
use Rattle.report.specs.declared.chart.column.Column.{Column}
use Rattle.report.specs.Columns.{IsNew, AreNew}
use Rattle.report.proofs.Running.{new_more}
use Rattle.report.proofs.chart.new_columns.Goals as goal

pub loop-member-preserved : goal.loop-member-preserved
loop-member-preserved c =
    let liars = c.args.liars.now in
    let k = c.loop-member.member-counter in
    let lies : c.contains-is_liar.result ≡ list_any (λ liar. liar == k) liars = c.contains-is_liar.ensures.value in
    subst (λ (l : List Column). AreNew c.args.n (k + 1) liars l) (sym {A = List Column} c.in_ok-push.ensures.items)
    (new_more c.args.n k liars c.loop-member.columns.items c.in_ok-new.field-0 c.loop-member.invariant
    (subst (λ is. IsNew c.args.n is c.in_ok-new.field-0) lies c.in_ok-new.ensures))
