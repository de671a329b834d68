use Rattle.std.proofs.Common.{rules, ◌≡◌, ◌∙◌, ap, sym, ◌++◌}
use Rattle.node.specs.Histories.{joined}
use Rattle.node.specs.Words.{heard_on}
use Rattle.node.proofs.Blocks.{heard_on-append}
use Rattle.node.proofs.transcript.Dossier.of.Goals as goal

pub returns-clause-heard : goal.returns-clause-heard
returns-clause-heard c =
    let full : heard_on c.args.question (joined c.in_ok-full.full.items) ≡ heard_on c.args.question (joined c.parts.result.0.now) = search (rules) in
    let last : c.hear_block.new.heard.items ≡ heard_on c.args.question c.parts.result.1.now = search (rules) in
    let whole : heard_on c.args.question (joined c.in_ok-full.full.items) ++ c.hear_block.new.heard.items ≡ heard_on c.args.question c.args.history.now.entries =
    (λ i. full i ++ last i)
    ∙ sym (heard_on-append c.args.question (joined c.parts.result.0.now) c.parts.result.1.now)
    ∙ ap (heard_on c.args.question) (sym c.parts.ensures) in
    whole
