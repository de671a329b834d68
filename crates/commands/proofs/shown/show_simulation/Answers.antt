use Rattle.std.proofs.Common.{◌≡◌, ◌∙◌, ℕ, List, Bool, true, false, IsTrue, refl, subst}
use Rattle.std.specs.Io.KnownBytes.{Appends}
use Rattle.commands.proofs.shown.show_simulation.Goals as goal

-- what isn't so is false
not_so : (b : Bool) → (P : Type 0) → (IsTrue b → P) → (P → ⊥) → b ≡ false
not_so false P so never = refl
not_so true P so never = absurd (never (so refl))

-- what is put and said is of one simulation
pub returns-in-Ok-print_verdicts-clause-all : goal.returns-in-Ok-print_verdicts-clause-all
returns-in-Ok-print_verdicts-clause-all g c =
    let of = c.in-Ok.ensures.all in
    let said = c.in-Ok-print_verdicts.ensures in
    let takes = c.takes_any-aside.ensures in (
      of.0,
      of.1,
      of.2,
      (λ some. of.3 (c.has_pages.ensures ∙ some)),
      record {
        in_output = λ none.
            subst (λ (text : List ℕ). Appends (g.W.Write.contents c.args.output.now) (g.W.Write.contents c.print_verdicts.new.output) text)
            (c.as_str.ensures.value ∙ of.4) (said.output (not_so _ _ takes.0 none));
        aside = λ some.
            subst (λ (text : List ℕ). Appends (g.E.Write.contents c.args.errors.now) (g.E.Write.contents c.print_verdicts.new.errors) text)
            (c.as_str.ensures.value ∙ of.4) (said.aside (takes.1 some));
      },
    )
