use Rattle.std.proofs.Common.{◌∙◌, codes}
use Rattle.std.specs.Fmt.{decimal}
use Rattle.transcripts.specs.Lines.{bit_words}
use Rattle.transcripts.proofs.Spelled.{first_parts}
use Rattle.transcripts.proofs.lines.put_first_words.Goals as goal

pub returns-clause-items : goal.returns-clause-items
returns-clause-items c =
    first_parts c.args.block.now.items c.put.new.block.items c.put-2.new.block.items c.put-3.new.block.items c.put-4.new.block.items c.put-5.new.block.items
    (codes "transcript ") c.as_bytes.result.now (decimal c.args.question) c.as_bytes-2.result.now (bit_words c.args.bit) c.as_bytes-3.result.now (decimal c.args.count)
    c.put.ensures.items c.put-2.ensures.items c.put-3.ensures.items c.put-4.ensures.items c.put-5.ensures.items
    (c.as_bytes.ensures.value ∙ c.format.ensures.text) (c.as_bytes-2.ensures.value ∙ c.bit_words.ensures) (c.as_bytes-3.ensures.value ∙ c.format-2.ensures.text)
