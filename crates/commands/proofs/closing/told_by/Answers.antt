use Rattle.std.proofs.Common.{ℕ, List, refl, sym, subst}
use Rattle.commands.specs.Closings.{HasEpochs}
use Rattle.commands.proofs.Counting.{never}
use Rattle.commands.proofs.closing.told_by.Goals as goal

pub returns-in-Some : goal.returns-in-Some
returns-in-Some c = subst (λ (reply : List ℕ). HasEpochs reply c.in-Some.epochs) c.deref.ensures.value c.in-Some.ensures.some

pub returns-in-None : goal.returns-in-None
returns-in-None c = (
  refl,
  λ is.
      let has = subst (λ (reply : List ℕ). HasEpochs reply is.0) (sym c.deref.ensures.value) is.1 in
      never _ is.0 c.in-None.is (c.closing_of.ensures.exact is.0 has),
)
