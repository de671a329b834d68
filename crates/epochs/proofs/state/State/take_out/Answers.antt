use Rattle.std.proofs.Common.{List, ◌==◌, ap, sym, ◌∙◌}
use Rattle.epochs.specs.Reports.{place_in}
use Rattle.epochs.specs.declared.running.Running.{Running}
use Rattle.epochs.proofs.Without.{nobody, others}
use Rattle.epochs.proofs.state.State.take_out.Goals as goal

pub returns-in-Some-clause-others : goal.returns-in-Some-clause-others
returns-in-Some-clause-others c =
    others (λ (one : Running). one.epoch == c.args.epoch) c.args.self.now.running.items c.remove.new.self.items c.in-Some.at c.remove.result
    (ap (λ (l : List Running). place_in l c.args.epoch) (sym c.as_slice.ensures.value) ∙ sym c.in-Some.ensures) c.remove.ensures.items

pub returns-in-None-clause-none : goal.returns-in-None-clause-none
returns-in-None-clause-none c = λ _.
    nobody (λ (one : Running). one.epoch == c.args.epoch) c.args.self.now.running.items
    (ap (λ (l : List Running). place_in l c.args.epoch) (sym c.as_slice.ensures.value) ∙ sym c.in-None.ensures)
