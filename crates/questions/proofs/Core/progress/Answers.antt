use Rattle.std.proofs.Common.{◌≡◌, Some, ap, ◌∙◌, slice_get}
use Rattle.terms_prelude.specs.Terms.{past_of}
use Rattle.questions.specs.Words.{CoreFields, core_size, core_me, AreStanding}
use Rattle.questions.proofs.Slots.{read_at}
use Rattle.questions.proofs.Core.progress.Goals as goal

pub returns-clause-known : goal.returns-clause-known
unfolding AreStanding
returns-clause-known c records heard knows below =
    let one = c.in_ok-get.field-0.now in
    let l = c.in_ok-get.ensures.lookup in
    let found : slice_get c.args.self.now.instances c.args.question ≡ Some one =
    read_at c.deref.result.now c.args.self.now.instances c.from.result c.args.question one
    (c.deref.ensures.value ∙ ap (λ (core : CoreFields). core.instances) c.self.view_is) c.from.ensures l.3.0 l.1 in
    c.progress.ensures (past_of (core_size c.args.self.now) (core_me c.args.self.now) c.args.question records heard) (knows.standing c.args.question one found)
