use Rattle.std.proofs.Common.{◌≡◌, Bool, true, false, sym, ◌∙◌}
use Rattle.std.proofs.lemmas.Result.{IfOk-weaker}
use Rattle.commands.proofs.Running.{both_ways}
use Rattle.commands.proofs.shown.play.Goals as goal

-- pages were wanted, and are put
pub returns-then-has_pages-clause-all : goal.returns-then-has_pages-clause-all
returns-then-has_pages-clause-all g c =
    IfOk-weaker c.put_pages.result _ _ (λ made of. (of.0, of.1, of.2, (λ wanted. of.3), of.4)) c.put_pages.ensures.all

-- none was wanted
pub returns-in-Ok-clause-all : goal.returns-in-Ok-clause-all
returns-in-Ok-clause-all g c =
    let of = c.in-Ok.ensures.all in (
      record { script = of.0; outcome = of.1 },
      of.2,
      of.3,
      (λ wanted. absurd (both_ways c.args.has_pages c.if-has_pages.false wanted)),
      of.4,
    )
