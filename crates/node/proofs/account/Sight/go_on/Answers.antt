use Rattle.std.proofs.Common.{◌≤◌, ◌∙◌, ap, subst, arith, length, List}
use Rattle.std.proofs.lemmas.Bool.Decides.{nat_tests}
use mathlib.Core.List.{IsPrefix}
use Rattle.node.specs.Accounts.{Group}
use Rattle.node.proofs.Fronts.{front_of_longer}
use Rattle.node.proofs.account.Sight.go_on.Goals as goal

pub returns-clause-log : goal.returns-clause-log
returns-clause-log g c =
    let both = c.learn.new.self.log in
    let mine : IsPrefix c.self.inside.seen.log both = subst (λ (l : List Group). IsPrefix l both) (ap (λ s. s.log) c.again-both.ensures) c.learn.ensures.2 in
    let few : length c.self.inside.seen.log ≤ length c.to.inside.seen.log = grind (arith, nat_tests, c.if-to-self.false, c.self.invariant, c.to.invariant.0) in
    let later = front_of_longer c.self.inside.seen.log c.to.inside.seen.log both mine c.learn.ensures.3 few in (
      ap (λ s. s.log) c.again.ensures ∙ c.to.view_is,
      subst (λ (l : List Group). IsPrefix l c.args.to.now) (ap (λ v. v.log) c.self.view_is) (subst (λ (l : List Group). IsPrefix c.self.inside.seen.log l) c.to.view_is later),
    )
