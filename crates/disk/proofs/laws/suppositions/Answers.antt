use Rattle.std.proofs.Common.{◌≡◌, ℕ, ◌∷◌, length, take, drop, refl, sym, ap, arith, length-take-le, length-drop}
use Rattle.disk.specs.Supposed.{state_after}
use Rattle.disk.specs.Supposed.Reply.{Told, Gave}
use Rattle.disk.proofs.Supposed.{earlier}
use Rattle.disk.proofs.laws.suppositions.Goals as goal

pub returns-clause-may_be_so : goal.returns-clause-may_be_so
returns-clause-may_be_so c file = (
  tt,
  λ before so.
      record {
        length_told = (so, refl);
        read_given = λ at n within.
            let seen = (state_after file before).seen in
            let long : length (take n (drop at seen)) ≡ n = length-take-le n (drop at seen) (omega (arith, within, length-drop at seen)) in
            (take n (drop at seen), long, (so, sym (ap (λ (k : ℕ). take k (drop at seen)) long)));
        written = λ at bytes. (so, tt);
        synced = (so, tt);
      },
)

pub returns-clause-lost : goal.returns-clause-lost
returns-clause-lost c file later before = (
  λ n other so. other (earlier file later (Told n ∷ before) so).1,
  λ at bytes other so. other (earlier file later (Gave at bytes ∷ before) so).1,
)
