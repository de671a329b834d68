use Rattle.std.proofs.Common.{ℕ, ◌==◌, ap, ap₂, ◌∙◌, codes}
use Rattle.terms_prelude.specs.Terms.{Size}
use Rattle.commands.specs.Owners.{unless}
use Rattle.commands.proofs.Owning.{differing}
use Rattle.report.proofs.Wording.{written_as}
use Rattle.commands.proofs.owners.differences.Goals as goal

pub returns : goal.returns
returns c =
    written_as c.format.result _ _
    (differing c.args.one.now c.args.other.now _ _ _ _ _
    (c.unless.ensures ∙ ap₂ (λ (x y : ℕ). unless (x == y) (codes " cluster")) c.cluster.ensures c.cluster-2.ensures)
    (c.unless-2.ensures ∙ ap₂ (λ (x y : ℕ). unless (x == y) (codes " n"))
    (c.n.ensures.value ∙ ap (λ (z : Size). z.n) c.size-size.ensures) (c.n-2.ensures.value ∙ ap (λ (z : Size). z.n) c.size-asked.ensures))
    (c.unless-3.ensures ∙ ap₂ (λ (x y : ℕ). unless (x == y) (codes " t"))
    (c.t.ensures.value ∙ ap (λ (z : Size). z.t) c.size-size.ensures) (c.t-2.ensures.value ∙ ap (λ (z : Size). z.t) c.size-asked.ensures))
    (c.unless-4.ensures ∙ ap₂ (λ (x y : ℕ). unless (x == y) (codes " questions"))
    (c.questions.ensures.value ∙ ap (λ (z : Size). z.questions) c.size-size.ensures) (c.questions-2.ensures.value ∙ ap (λ (z : Size). z.questions) c.size-asked.ensures))
    (c.unless-5.ensures ∙ ap₂ (λ (x y : ℕ). unless (x == y) (codes " member")) c.me.ensures.value c.me-2.ensures.value))
    c.format.ensures.ok
