use Rattle.std.proofs.Common.{ap, ℕ, List, ◌++◌, codes}
use Rattle.std.specs.Fmt.{decimal}
use Rattle.report.proofs.Wording.{written_as}
use Rattle.commands.proofs.asked.count_words.Goals as goal

pub returns : goal.returns
returns c =
    written_as c.format.result _ _
    (ap (λ (key : List ℕ). key ++ (codes ": there are " ++ (decimal c.args.count ++ (codes " entries, and must be " ++ decimal c.args.n)))) c.text.ensures)
    c.format.ensures.ok
