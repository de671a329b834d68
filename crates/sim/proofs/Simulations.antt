-- What a simulation promises.
use Rattle.std.proofs.Common.{◌≤◌, ℕ, Bool, List, sym, subst, arith}
use Rattle.std.specs.Global.{Vec}
use Rattle.terms_prelude.specs.Terms.{Size, Record, IsSize, count_below}
use Rattle.world.specs.Words.{World, EveryRun, Agree, Unanimous}
use Rattle.sim.specs.Words.{Event, Mark, opening, AreLiars, IsSimulation, HaveOneBit, AreUnanimous, Verdict, among}
use Rattle.sim.proofs.Rising.{few_among}
use Rattle.sim.proofs.Verdicts.{verdicts_agree, verdicts_unanimous}
use Rattle.sim.proofs.Proposals.{script_on}

pub few_lie : (size : Size) (liars : List ℕ) → AreLiars size liars → count_below size.n (among liars) ≤ size.t
few_lie size liars are = let many = few_among size.n liars in omega (arith, many, are.1)

module _ (size : Size) (liars fused : ℕ → Bool) (script : List Event) (marks : List Mark) (saved : List (Vec Record)) (verdicts : List Verdict) (ok : IsSize size) (few : count_below size.n liars ≤ size.t)
    (s : IsSimulation size liars fused script marks saved verdicts) where
  pub simulations_agree : EveryRun Agree → HaveOneBit verdicts
  simulations_agree agree =
      verdicts_agree size liars s.last.world verdicts
      (subst (λ (w : World). Agree size liars w) (sym s.world_is) (agree size liars ok few s.steps s.is_run))
      s.verdicts_are

  pub simulations_unanimous : EveryRun Unanimous → AreUnanimous script marks verdicts
  simulations_unanimous unanimous question v only =
      verdicts_unanimous size liars s.last.world verdicts question v
      (subst (λ (w : World). Unanimous size liars w) (sym s.world_is) (unanimous size liars ok few s.steps s.is_run))
      (script_on question v size liars (opening fused) script marks saved s.steps s.last only s.run (λ a b h. cc))
      s.verdicts_are
