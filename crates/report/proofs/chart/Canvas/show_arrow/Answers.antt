use Rattle.std.proofs.Common.{rules, ◌≡◌, ◌==◌, ◌++◌, [], ◌∷◌, false, true, nat_lt}
use Rattle.report.specs.declared.chart.drawing.Words.TheVariants as words
use Rattle.report.specs.Drawings.{Loop, Arrow, words_at}
use Rattle.report.specs.Pictures.{arrow_elements, arrow_words, far_words}
use Rattle.report.proofs.Elements.{and_then, grows_more, named}
use Rattle.report.proofs.Picturing.{loop_is, arrow_is}
use Rattle.report.proofs.chart.Canvas.show_arrow.Goals as goal

pub returns-then-from-to-clause-drawn : goal.returns-then-from-to-clause-drawn
returns-then-from-to-clause-drawn c =
    let same : (c.args.from == c.args.to) ≡ true = search rules in
    named c.words.result c.args.self.now.events c.words.new.self (Loop c.x_of-start.result c.args.y ∷ words_at words.Turn c.x_of-start.result c.args.y c.args.carried.now)
    (arrow_elements c.args.from c.args.to c.args.carried.now c.args.y) (loop_is c.args.from c.args.to c.x_of-start.result c.args.y c.args.carried.now same c.x_of-start.ensures)
    (and_then c.words.result c.args.self.now.events c.turn.new.self c.words.new.self (Loop c.x_of-start.result c.args.y ∷ [])
    (words_at words.Turn c.x_of-start.result c.args.y c.args.carried.now) c.in_ok-turn.ensures c.words.ensures)

pub returns-clause-drawn : goal.returns-clause-drawn
returns-clause-drawn c =
    let other : (c.args.from == c.args.to) ≡ false = search rules in
    let way : c.arrow_words.result ≡ arrow_words (nat_lt c.args.from c.args.to) = search rules in
    let back : c.arrow_words-2.result ≡ arrow_words (nat_lt c.args.to c.args.from) = search rules in
    let near = words_at c.arrow_words.result c.x_of-start.result c.args.y c.args.carried.now in
    let far = far_words c.arrow_words-2.result c.args.from c.args.to c.args.carried.now c.args.y in
    named c.show_far.result c.args.self.now.events c.show_far.new.self.events
    (Arrow false c.x_of-start.result c.x_of-end.result c.args.y ∷ (near ++ far))
    (arrow_elements c.args.from c.args.to c.args.carried.now c.args.y)
    (arrow_is c.args.from c.args.to c.x_of-start.result c.x_of-end.result c.args.y c.args.carried.now c.arrow_words.result c.arrow_words-2.result other
    c.x_of-start.ensures c.x_of-end.ensures way back)
    (and_then c.show_far.result c.args.self.now.events c.words-2.new.self c.show_far.new.self.events (Arrow false c.x_of-start.result c.x_of-end.result c.args.y ∷ near) far
    (grows_more c.args.self.now.events c.arrow.new.self c.words-2.new.self (Arrow false c.x_of-start.result c.x_of-end.result c.args.y ∷ []) near
    (search (rules, c.in_ok-arrow.ensures)) c.in_ok-words.ensures)
    c.show_far.ensures.drawn)
