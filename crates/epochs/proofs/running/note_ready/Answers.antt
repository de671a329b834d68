use Rattle.std.proofs.Common.{◌∙◌, ◌==◌, List, refl, sym, ap}
use Rattle.std.specs.Option.{option_map}
use Rattle.epochs.specs.declared.running.Running.{Running}
use Rattle.epochs.specs.Reports.{place_in, readied}
use Rattle.epochs.proofs.Noting.{find-None, noted_there, noted_nowhere_else}
use Rattle.epochs.proofs.running.note_ready.Goals as goal

pub returns-in-Some-get_mut-clause-noted : goal.returns-in-Some-get_mut-clause-noted
returns-in-Some-get_mut-clause-noted c =
    let placed = ap (λ (l : List Running). place_in l c.args.epoch) (sym c.as_slice.ensures.value) ∙ sym c.in-Some.ensures in
    (noted_there _ _ _ readied _ _ placed c.in-Some-get_mut.ensures.value refl refl).1

pub returns-in-Some-get_mut-clause-others : goal.returns-in-Some-get_mut-clause-others
returns-in-Some-get_mut-clause-others c =
    let placed = ap (λ (l : List Running). place_in l c.args.epoch) (sym c.as_slice.ensures.value) ∙ sym c.in-Some.ensures in
    λ other. noted_nowhere_else _ _ _ readied _ _ other placed c.in-Some-get_mut.ensures.value refl refl

pub returns-in_default-clause-noted : goal.returns-in_default-clause-noted
returns-in_default-clause-noted c =
    let nowhere = find-None (λ (one : Running). one.epoch == c.args.epoch) c.args.running.now.items (ap (λ (l : List Running). place_in l c.args.epoch) (sym c.as_slice.ensures.value) ∙ sym c.in_default.ensures) in
    nowhere ∙ sym (ap (option_map readied) nowhere)
