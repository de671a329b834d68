use Rattle.std.proofs.Common.{◌∙◌, string_bytes}
use Rattle.commands.proofs.Batches.{words_more}
use Rattle.commands.proofs.damage.hex_words.Goals as goal

pub loop-byte-preserved : goal.loop-byte-preserved
loop-byte-preserved c =
    words_more c.args.bytes.now c.loop-byte.byte-index (string_bytes c.loop-byte.text) c.as_str.result.now (string_bytes c.push_str.new.self)
    c.loop-byte-test.true c.loop-byte.invariant (c.as_str.ensures.value ∙ c.in_ok-byte_word.ensures) c.in_ok-push_str.ensures.bytes
