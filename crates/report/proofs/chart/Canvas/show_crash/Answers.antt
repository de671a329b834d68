use Rattle.std.proofs.Common.{rules, ◌≡◌, [], ◌∷◌, codes}
use Rattle.numerals.specs.Sentences.{sentence}
use Rattle.sim.specs.Texts.{pick_text}
use Rattle.report.specs.declared.chart.drawing.Sign.TheVariants as sign
use Rattle.report.specs.declared.chart.drawing.Words.TheVariants as words
use Rattle.report.specs.Drawings.{SignAt, words_at}
use Rattle.report.specs.Pictures.{crash_elements}
use Rattle.report.proofs.Elements.{and_then, named}
use Rattle.report.proofs.chart.Canvas.show_crash.Goals as goal

pub returns-clause-drawn : goal.returns-clause-drawn
returns-clause-drawn c =
    let text : c.as_str.result.now ≡ sentence (codes "crash" ∷ pick_text c.args.pick ∷ []) = search rules in
    named c.words.result c.args.self.now.events c.words.new.self
    (SignAt sign.Cross c.x_of.result c.args.y ∷ words_at words.Crash c.x_of-2.result c.args.y c.as_str.result.now)
    (crash_elements c.args.member c.args.pick c.args.y) (search (rules, text))
    (and_then c.words.result c.args.self.now.events c.sign.new.self c.words.new.self (SignAt sign.Cross c.x_of.result c.args.y ∷ [])
    (words_at words.Crash c.x_of-2.result c.args.y c.as_str.result.now) c.in_ok-sign.ensures c.words.ensures)
