use Rattle.std.proofs.Common.{rules, sym, ap, ◌∙◌, ◌++◌, ◌+◌, drop, [], List}
use Rattle.terms_prelude.specs.Terms.{Statement}
use Rattle.questions.specs.Replay.{link_part}
use Rattle.node.specs.Words.{same_statements}
use Rattle.node.specs.Histories.{joined}
use Rattle.node.proofs.Blocks.{link_left, link_end, none_same}
use Rattle.node.proofs.settle.is_link_part.Goals as goal

pub returns-in-None : goal.returns-in-None
returns-in-None c =
    sym (c.loop-block.invariant
    ∙ ap (λ (l : List Statement). same_statements l c.loop-block.rest.now)
    (link_left c.args.peer c.parts.result.0.now c.loop-block.block-index c.block-item.result c.entries.result.now c.parts.result.1.now c.block-item.is (search (rules)) c.entries.ensures)
    ∙ c.in-None.ensures.none (link_part c.args.peer (joined (drop (c.loop-block.block-index + 1) c.parts.result.0.now) ++ c.parts.result.1.now)))

pub loop-block-preserved : goal.loop-block-preserved
loop-block-preserved c =
    c.loop-block.invariant
    ∙ ap (λ (l : List Statement). same_statements l c.loop-block.rest.now)
    (link_left c.args.peer c.parts.result.0.now c.loop-block.block-index c.block-item.result c.entries.result.now c.parts.result.1.now c.block-item.is (search (rules)) c.entries.ensures)
    ∙ c.in-Some.ensures.some (link_part c.args.peer (joined (drop (c.loop-block.block-index + 1) c.parts.result.0.now) ++ c.parts.result.1.now))

pub returns-in-Some-behind : goal.returns-in-Some-behind
returns-in-Some-behind c =
    sym (c.loop-block.invariant
    ∙ ap (λ (l : List Statement). same_statements l c.loop-block.rest.now) (link_end c.args.peer c.parts.result.0.now c.loop-block.block-index c.parts.result.1.now (search (rules)))
    ∙ c.in-Some-behind.ensures.some []
    ∙ none_same c.in-Some-behind.more.now
    ∙ sym c.is_empty.ensures)

pub returns-in-None-behind : goal.returns-in-None-behind
returns-in-None-behind c =
    sym (c.loop-block.invariant
    ∙ ap (λ (l : List Statement). same_statements l c.loop-block.rest.now) (link_end c.args.peer c.parts.result.0.now c.loop-block.block-index c.parts.result.1.now (search (rules)))
    ∙ c.in-None-behind.ensures.none [])
