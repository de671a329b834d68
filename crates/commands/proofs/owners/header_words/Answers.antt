use Rattle.std.proofs.Common.{ap, ◌∙◌}
use Rattle.terms_prelude.specs.Terms.{Size}
use Rattle.commands.proofs.Owning.{header_pieces}
use Rattle.report.proofs.Wording.{written_as}
use Rattle.commands.proofs.owners.header_words.Goals as goal

pub returns : goal.returns
returns c =
    written_as c.format.result _ _
    (header_pieces c.args.header.now c.cluster.result c.n.result c.t.result c.questions.result c.me.result
    c.cluster.ensures
    (c.n.ensures.value ∙ ap (λ (z : Size). z.n) c.size-size.ensures)
    (c.t.ensures.value ∙ ap (λ (z : Size). z.t) c.size-size.ensures)
    (c.questions.ensures.value ∙ ap (λ (z : Size). z.questions) c.size-size.ensures)
    c.me.ensures.value)
    c.format.ensures.ok
