use Rattle.std.proofs.Common.{rules, refl}
use Rattle.node.specs.Words.{heard_on}
use Rattle.node.specs.Histories.{joined}
use Rattle.node.proofs.Blocks.{heard_turn, heard_all}
use Rattle.node.proofs.transcript.shared_on.Goals as goal

pub loop-block-preserved : goal.loop-block-preserved
loop-block-preserved c =
    heard_turn c.args.question c.args.blocks.now c.loop-block.block-index c.block-item.result c.block-item.result
    (heard_on c.args.question (joined c.loop-block.copies.items)) (heard_on c.args.question (joined c.share_on.new.copies.items)) _
    c.block-item.is (search (rules)) refl (search (rules)) c.loop-block.invariant

pub returns : goal.returns
returns c = heard_all c.args.question c.args.blocks.now c.loop-block.block-index _ (search (rules)) c.loop-block.invariant
