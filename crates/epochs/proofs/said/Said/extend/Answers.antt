use Rattle.std.proofs.Common.{◌∙◌}
use Rattle.epochs.specs.Lines.{said_bytes}
use Rattle.epochs.specs.declared.said.TheConstants.{MOST}
use Rattle.epochs.proofs.Saying.{extended, one_more}
use Rattle.epochs.proofs.said.Said.extend.Goals as goal

pub loop-byte-preserved : goal.loop-byte-preserved
loop-byte-preserved c =
    one_more MOST (said_bytes c.loop-byte.self) (said_bytes c.push.new.self) c.args.bytes.now c.loop-byte.byte-index _ c.loop-byte-test.true c.push.ensures ∙ c.loop-byte.invariant

pub returns : goal.returns
returns c = extended MOST c.loop-byte.self.length c.loop-byte.self.bytes c.args.bytes.now _ c.loop-byte.byte-index c.loop-byte.self.within c.loop-byte-test.false c.loop-byte.invariant
