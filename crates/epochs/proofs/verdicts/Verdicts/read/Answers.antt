use Rattle.std.proofs.Common.{◌≡◌, ◌∷◌, Result, Ok, Err, OnOk, subst, sym}
use Rattle.terms_prelude.specs.Terms.{Record}
use Rattle.epochs.specs.Verdicts.{decided_in, order_with}
use Rattle.epochs.proofs.Ordering.{decision_read}
use Rattle.epochs.proofs.verdicts.Verdicts.read.Goals as goal

pub returns-in-Decided-clause-order : goal.returns-in-Decided-clause-order
returns-in-Decided-clause-order c =
    both (λ decided order later. subst (λ (next : Record). order_with c.decide.new.self later ≡ order_with c.args.self.now (next ∷ later)) (sym c.in-Decided.is)
    (decision_read c.args.self.now c.decide.new.self c.in-Decided.question c.in-Decided.bit c.decide.ensures.size decided order (decided_in later)))
    c.decide.result c.decide.ensures.decided c.decide.ensures.order
  where
    both : {A E P Q R : Type 0} → (P → Q → R) → (r : Result A E) → OnOk r P → OnOk r Q → OnOk r R
    both and (Ok a) p q = and p q
    both and (Err e) p q = p
