use Rattle.std.proofs.Common.{◌≤◌, ap, subst, arith, length, List}
use Rattle.std.proofs.lemmas.Bool.Decides.{nat_tests}
use mathlib.Core.List.{IsPrefix}
use Rattle.node.specs.Accounts.{Group}
use Rattle.node.proofs.Fronts.{front_of_longer}
use Rattle.node.proofs.account.Witness.begins_with.Goals as goal

pub returns : goal.returns
returns g c = λ is.
    let both = c.learn.new.self.log in
    let mine : IsPrefix c.self.inside.seen.log both = subst (λ (l : List Group). IsPrefix l both) (ap (λ s. s.log) c.again-both.ensures) c.learn.ensures.2 in
    let few : length c.other.inside.seen.log ≤ length c.self.inside.seen.log = grind (arith, nat_tests, is, c.self.invariant.0, c.other.invariant.0) in
    rw (← c.self.view_is, ← c.other.view_is) (front_of_longer c.other.inside.seen.log c.self.inside.seen.log both c.learn.ensures.3 mine few)
