use Rattle.std.proofs.Common.{◌≡◌, ℕ, Option, Some, None, sym, ◌∙◌, rules}
use Rattle.numerals.proofs.Cuts.{spaceless, no_position}
use Rattle.desk.proofs.line.is_word.Goals as goal

pub returns-in-Some : goal.returns-in-Some
returns-in-Some c = (
  λ no. absurd (cc),
  λ is.
      let none : ◌≡◌ {A = Option ℕ} (Some c.in-Some.field-0) None = c.in-Some.ensures.value ∙ no_position 0 c.args.text.now is.no_space in
      absurd (cc),
)

pub returns-in-None : goal.returns-in-None
returns-in-None c =
    (λ yes. record { some = search (rules, c.is_empty.ensures, c.if-is_empty.false); no_space = spaceless 0 c.args.text.now (sym c.in-None.ensures.value) }, λ is. search rules)
