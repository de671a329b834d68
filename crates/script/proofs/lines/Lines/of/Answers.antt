use Rattle.std.proofs.Common.{ap, ◌∙◌, Bor, List, ℕ, arith}
use Rattle.script.specs.Words.{texts, numbered, ends_empty, said_from}
use Rattle.script.proofs.Splits.{page_is}
use Rattle.script.proofs.lines.Lines.of.Goals as goal

pub returns : goal.returns
returns c =
    page_is c.args.text.now c.in_ok-parts.parts.items (numbered c.in_ok-said.said.items) c.len.result c.from.result c.ends_empty.result
    c.in_ok-parts.ensures
    (c.in_ok-said.ensures ∙ ap (λ (ws : List (Bor (List ℕ))). said_from 1 (texts ws)) c.deref.ensures.value)
    (omega (arith, c.len.ensures, c.in_ok-parts.parts.ok.0))
    c.from.ensures
    (c.ends_empty.ensures ∙ ap (λ (ws : List (Bor (List ℕ))). ends_empty (texts ws)) c.deref-2.ensures.value)
