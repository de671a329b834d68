use Rattle.std.proofs.Common.{rules, ◌≡◌, ◌++◌, [], ◌∷◌, true, nat_lt}
use Rattle.report.specs.Drawings.{Arrow, words_at}
use Rattle.report.specs.Pictures.{lie_elements, lie_words, far_words}
use Rattle.report.proofs.Elements.{and_then, grows_more, named}
use Rattle.report.proofs.Picturing.{lie_is}
use Rattle.report.proofs.chart.Canvas.show_lie_of.Goals as goal

pub returns-clause-drawn : goal.returns-clause-drawn
returns-clause-drawn c =
    let way : c.lie_words.result ≡ lie_words (nat_lt c.args.liar c.args.to) = search rules in
    let back : c.lie_words-2.result ≡ lie_words (nat_lt c.args.to c.args.liar) = search rules in
    let near = words_at c.lie_words.result c.x_of-3.result c.args.y c.args.label.now in
    let far = far_words c.lie_words-2.result c.args.liar c.args.to c.args.label.now c.args.y in
    named c.show_far.result c.args.self.now.events c.show_far.new.self.events
    (Arrow true c.x_of.result c.x_of-2.result c.args.y ∷ (near ++ far))
    (lie_elements c.args.liar c.args.to c.args.label.now c.args.y)
    (lie_is c.args.liar c.args.to c.x_of.result c.x_of-2.result c.x_of-3.result c.args.y c.args.label.now c.lie_words.result c.lie_words-2.result
    c.x_of.ensures c.x_of-2.ensures c.x_of-3.ensures way back)
    (and_then c.show_far.result c.args.self.now.events c.words.new.self c.show_far.new.self.events (Arrow true c.x_of.result c.x_of-2.result c.args.y ∷ near) far
    (grows_more c.args.self.now.events c.arrow.new.self c.words.new.self (Arrow true c.x_of.result c.x_of-2.result c.args.y ∷ []) near
    (search (rules, c.in_ok-arrow.ensures)) c.in_ok-words.ensures)
    c.show_far.ensures.drawn)
