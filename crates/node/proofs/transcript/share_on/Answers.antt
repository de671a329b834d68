use Rattle.std.proofs.Common.{rules, ◌≡◌, ◌++◌, ◌∷◌, [], ◌∙◌, ap, List}
use Rattle.questions.specs.Words.{Entry}
use Rattle.node.specs.Words.{heard_on}
use Rattle.node.specs.Histories.{joined}
use Rattle.node.proofs.Blocks.{heard_on-append, joined-snoc}
use Rattle.node.proofs.transcript.share_on.Goals as goal

pub returns : goal.returns
returns c =
    let more : c.push.new.self.items ≡ c.args.copies.now.items ++ c.args.block.now ∷ [] = search (rules) in
    ap (λ (l : List (List Entry)). heard_on c.args.question (joined l)) more
    ∙ ap (heard_on c.args.question) (joined-snoc c.args.copies.now.items c.args.block.now)
    ∙ heard_on-append c.args.question (joined c.args.copies.now.items) c.args.block.now
