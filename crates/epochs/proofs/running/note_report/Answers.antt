use Rattle.std.proofs.Common.{ℕ, Bool, ◌∙◌, ◌==◌, List, refl, sym, ap}
use Rattle.std.specs.Option.{option_map}
use Rattle.epochs.specs.declared.running.Running.{Running}
use Rattle.epochs.specs.Reports.{noted, place_in}
use Rattle.epochs.proofs.Noting.{find-None, noted_there, noted_nowhere_else}
use Rattle.epochs.proofs.running.note_report.Goals as goal

pub returns-in-Some-get_mut-clause-noted : goal.returns-in-Some-get_mut-clause-noted
returns-in-Some-get_mut-clause-noted c =
    let placed = ap (λ (l : List Running). place_in l c.args.epoch) (sym c.as_slice.ensures.value) ∙ sym c.in-Some.ensures in
    (noted_there _ _ _ (noted c.args.report) _ _ placed c.in-Some-get_mut.ensures.value c.note.ensures refl).1

pub returns-in-Some-get_mut-clause-others : goal.returns-in-Some-get_mut-clause-others
returns-in-Some-get_mut-clause-others c =
    let placed = ap (λ (l : List Running). place_in l c.args.epoch) (sym c.as_slice.ensures.value) ∙ sym c.in-Some.ensures in
    λ other. noted_nowhere_else _ _ _ (noted c.args.report) _ _ other placed c.in-Some-get_mut.ensures.value c.note.ensures refl

pub returns-in-Some-get_mut-clause-tells : goal.returns-in-Some-get_mut-clause-tells
returns-in-Some-get_mut-clause-tells c =
    let placed = ap (λ (l : List Running). place_in l c.args.epoch) (sym c.as_slice.ensures.value) ∙ sym c.in-Some.ensures in
    sym (ap (option_map {T = Running} {U = ℕ × Bool} (λ one. (one.quiet, one.rests))) (noted_there _ _ _ (noted c.args.report) _ _ placed c.in-Some-get_mut.ensures.value c.note.ensures refl).0)

pub returns-in_default-clause-noted : goal.returns-in_default-clause-noted
returns-in_default-clause-noted c =
    let nowhere = find-None (λ (one : Running). one.epoch == c.args.epoch) c.args.running.now.items (ap (λ (l : List Running). place_in l c.args.epoch) (sym c.as_slice.ensures.value) ∙ sym c.in_default.ensures) in
    nowhere ∙ sym (ap (option_map (noted c.args.report)) nowhere)

pub returns-in_default-clause-tells : goal.returns-in_default-clause-tells
returns-in_default-clause-tells c =
    let nowhere = find-None (λ (one : Running). one.epoch == c.args.epoch) c.args.running.now.items (ap (λ (l : List Running). place_in l c.args.epoch) (sym c.as_slice.ensures.value) ∙ sym c.in_default.ensures) in
    sym (ap (option_map {T = Running} {U = ℕ × Bool} (λ one. (one.quiet, one.rests))) nowhere)
