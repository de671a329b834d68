use Rattle.std.proofs.Common.{sym, subst, ◌++◌, ◌∷◌, []}
use Rattle.terms_prelude.specs.Terms.{Record, Decided}
use Rattle.node.specs.Words.{AreCounted, TallyView}
use Rattle.node.proofs.Tallying.{counted_said, counted_decided}
use Rattle.node.proofs.tally.Tally.count.Goals as goal

pub returns-in-Decided-clause-counted : goal.returns-in-Decided-clause-counted
returns-in-Decided-clause-counted c = λ questions before h.
    subst (λ (r : Record). AreCounted questions (before ++ r ∷ []) c.decide.new.self) (sym c.in-Decided.is)
    (subst (λ (t : TallyView). AreCounted questions (before ++ Decided c.in-Decided.question c.in-Decided.round c.in-Decided.bit ∷ []) t) (sym c.decide.ensures)
    (counted_decided questions before c.in-Decided.question c.in-Decided.round c.in-Decided.bit c.args.self.now h))

pub returns-in_default-clause-counted : goal.returns-in_default-clause-counted
returns-in_default-clause-counted c = λ questions before h.
    subst (λ (r : Record). AreCounted questions (before ++ r ∷ []) c.args.self.now) (sym c.in_default.is)
    (counted_said questions before c.in_default.field-0 c.args.self.now h)
