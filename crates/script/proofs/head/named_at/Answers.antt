use Rattle.std.proofs.Common.{◌∙◌, ap, inr, Bor, List, ℕ}
use Rattle.script.specs.Words.{texts, IsNumberNamed}
use Rattle.script.proofs.Heads.{lacks}
use Rattle.script.proofs.head.named_at.Goals as goal

pub returns-clause-err : goal.returns-clause-err
returns-clause-err c =
    inr (lacks c.args.lines.now c.args.place (IsNumberNamed c.args.name.now) c.fault.result c.in_ok-line.line.number c.in_ok-line.line.text.now
    (texts c.deref.result.now) c.in_ok-line.ensures.ok
    (ap (λ (ws : List (Bor (List ℕ))). texts ws) c.deref.ensures.value ∙ c.in_ok-words.ensures)
    (λ x h. let e = c.in-None.ensures.exact x h in cc)
    c.fault.ensures)
