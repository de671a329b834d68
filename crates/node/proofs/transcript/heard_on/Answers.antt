use Rattle.std.proofs.Common.{rules}
use Rattle.node.proofs.Blocks.{heard_turn, heard_end}
use Rattle.node.proofs.transcript.heard_on.Goals as goal

pub loop-block-preserved : goal.loop-block-preserved
loop-block-preserved c =
    heard_turn c.args.question c.args.full.now c.loop-block.block-index c.block-item.result c.entries.result.now c.loop-block.heard.items c.hear_block.new.heard.items _
    c.block-item.is (search (rules)) (search (rules)) (search (rules)) c.loop-block.invariant

pub returns : goal.returns
returns c =
    heard_end c.args.question c.args.full.now c.loop-block.block-index c.args.last.now c.loop-block.heard.items c.extend_from_slice.new.self.items
    (search (rules)) (search (rules)) c.loop-block.invariant
