use Rattle.std.proofs.Common.{rules, ◌==◌, ◌∙◌, ◌≡◌, ◌-◌, ap, slice_get, tests}
use Rattle.std.proofs.lemmas.Iterator.Consumers.{nth_from_yields_List}
use Rattle.std.proofs.lemmas.Iterator.Splits.{YieldsList-from_slice_split}
use Rattle.commands.specs.TextLines.{lines_in}
use Rattle.commands.proofs.text_lines.line_at.Goals as goal

pub returns : goal.returns
returns c =
    let before : c.saturating_sub-before.result ≡ c.args.number - 1 = search (rules, c.saturating_sub-before.ensures) in
    nth_from_yields_List _ _ _ c.nth.ensures.ran
    (YieldsList-from_slice_split _ (λ b. b == 10) c.args.text.now c.split.ensures.rest c.split.ensures.done c.split.ensures.closure
    (λ x b q k. search (rules, tests)))
    ∙ ap (slice_get (lines_in c.args.text.now)) before
