use Rattle.std.proofs.Common.{ℕ, ◌≡◌, Option, Some, ap, ◌∙◌, sym, length}
use Rattle.std.specs.List.{position_from}
use Rattle.commands.specs.Asked.{digits_words, is_other}
use Rattle.report.proofs.Wording.{written_as}
use Rattle.commands.proofs.asked.digits_words.Goals as goal

pub returns-in-Some : goal.returns-in-Some
returns-in-Some c =
    let at : ◌≡◌ {A = Option ℕ} (Some c.in-Some.place) (position_from is_other 0 c.args.digits.now) = sym c.in-Some.is ∙ c.first_other.ensures in
    written_as c.format-in-Some.result _ _
    (ap (λ (o : Option ℕ). digits_words (length c.args.digits.now) o) at)
    c.format-in-Some.ensures.ok
