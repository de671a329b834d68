use Rattle.std.proofs.Common.{rules, ◌≡◌, ◌∙◌, ◌++◌, [], ◌∷◌, ap, codes, ℕ, List, string_bytes}
use Rattle.std.specs.Fmt.{decimal}
use Rattle.numerals.specs.Sentences.{bit_digit}
use Rattle.report.specs.declared.chart.drawing.Sign.TheVariants as sign
use Rattle.report.specs.declared.chart.drawing.Words.TheVariants as words
use Rattle.report.specs.Drawings.{SignAt, words_at}
use Rattle.report.specs.Pictures.{proposal_elements, on_question}
use Rattle.report.proofs.Wording.{bit_of}
use Rattle.report.proofs.Elements.{and_then, named}
use Rattle.report.proofs.Picturing.{proposal_is}
use Rattle.report.proofs.chart.Canvas.show_proposal.Goals as goal

pub returns-clause-drawn : goal.returns-clause-drawn
returns-clause-drawn c =
    let question : string_bytes c.in_ok-on.on ≡ on_question c.args.self.now.size.questions c.args.question = search rules in
    let text : c.as_str.result.now ≡ codes "proposes " ++ (decimal c.from.result ++ string_bytes c.in_ok-on.on) = search rules in
    let bit : c.from.result ≡ bit_digit c.args.bit = search (rules, bit_of c.args.bit) in
    named c.words.result c.args.self.now.events c.words.new.self (SignAt sign.Dot c.x_of-x.result c.args.y ∷ words_at words.Proposal c.x_of-x.result c.args.y c.as_str.result.now)
    (proposal_elements c.args.self.now.size.questions c.args.member c.args.question c.args.bit c.args.y)
    (proposal_is c.args.self.now.size.questions c.args.member c.args.question c.args.bit c.x_of-x.result c.args.y c.as_str.result.now c.x_of-x.ensures
    (text ∙ ap (λ b. codes "proposes " ++ (decimal b ++ string_bytes c.in_ok-on.on)) bit ∙ ap (λ (q : List ℕ). codes "proposes " ++ (decimal (bit_digit c.args.bit) ++ q)) question))
    (and_then c.words.result c.args.self.now.events c.sign.new.self c.words.new.self (SignAt sign.Dot c.x_of-x.result c.args.y ∷ [])
    (words_at words.Proposal c.x_of-x.result c.args.y c.as_str.result.now) c.in_ok-sign.ensures c.words.ensures)
