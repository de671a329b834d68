use Rattle.std.proofs.Common.{rules, ◌≡◌, ◌==◌, ◌∙◌, length, false}
use Rattle.report.specs.Drawings.{WordsAt, element_text, words_at}
use Rattle.report.proofs.Elements.{drawn, words_text}
use Rattle.report.proofs.chart.drawing.Drawing.words.Goals as goal

pub returns : goal.returns
returns c =
    let some : (length c.args.words.now == 0) ≡ false = search rules in
    let text : c.as_str.result.now ≡ element_text (WordsAt c.args.what c.args.x c.args.y c.args.words.now) = search rules in
    drawn c.add.result c.args.self.now c.add.new.self c.as_str.result.now (words_at c.args.what c.args.x c.args.y c.args.words.now)
    (text ∙ words_text c.args.what c.args.x c.args.y c.args.words.now some) c.add.ensures
