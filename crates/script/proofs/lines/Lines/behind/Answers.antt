use Rattle.std.proofs.Common.{ap, ◌∙◌, drop, List}
use Rattle.script.specs.Words.{Line, Page, numbered}
use Rattle.script.proofs.Leading.{numbered_from}
use Rattle.script.proofs.lines.Lines.behind.Goals as goal

pub returns-then-place-len : goal.returns-then-place-len
returns-then-place-len c =
    numbered_from c.args.place c.deref.result.now
    ∙ (ap (λ (ls : List Line). drop c.args.place (numbered ls)) c.deref.ensures.value ∙ ap (λ (p : Page). drop c.args.place p.said) c.self.view_is)
