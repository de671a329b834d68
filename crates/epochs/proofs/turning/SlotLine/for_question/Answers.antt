use Rattle.std.proofs.Common.{◌≡◌, ◌∙◌, List, ℕ, ap, take, ◌++◌}
use Rattle.std.specs.Fmt.{decimal}
use Rattle.epochs.specs.Lines.{said_bytes, verb_text}
use Rattle.epochs.specs.declared.said.TheConstants.{MOST}
use Rattle.epochs.proofs.Saying.{put_as, put_three}
use Rattle.epochs.proofs.turning.SlotLine.for_question.Goals as goal

pub returns : goal.returns
returns c =
    put_three MOST (said_bytes c.nothing-said.result) (said_bytes c.extend.new.self) (said_bytes c.extend-2.new.self) (said_bytes c.extend-3.new.self)
    (verb_text c.args.self.now.verb) (decimal c.args.question) c.args.self.now.rest.now c.nothing-said.ensures
    (put_as MOST (said_bytes c.nothing-said.result) (said_bytes c.extend.new.self) c.as_bytes.result.now (verb_text c.args.self.now.verb) c.extend.ensures (c.as_bytes.ensures.value ∙ c.text.ensures))
    (put_as MOST (said_bytes c.extend.new.self) (said_bytes c.extend-2.new.self) c.as_bytes-2.result.now (decimal c.args.question) c.extend-2.ensures (c.as_bytes-2.ensures.value ∙ c.format.ensures.text))
    c.extend-3.ensures
