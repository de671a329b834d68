use Rattle.std.proofs.Common.{rules, ◌≡◌, ◌<◌, ◌≤◌, ◌+◌, [], ◌∷◌, ◌∙◌, Bool, List, Option, length, drop, sym, ap, subst}
use Rattle.std.proofs.lemmas.List.{drop_all, drop_more}
use Rattle.client.specs.declared.reading.Reading.{Reading}
use Rattle.asking.proofs.Proving.{taken_more, taken_none}
use Rattle.asking.specs.Hearsay.{TakesProofs, bit_in}
use Rattle.asking.specs.Polls.{Takes}
use Rattle.asking.specs.declared.board.News.{News}
use Rattle.asking.proofs.hearsay.take_proofs.Goals as goal

pub loop-one-preserved : goal.loop-one-preserved
loop-one-preserved c = λ new rest.
    let news : List News = c.args.news.now in
    let size = c.args.size in
    let question = c.args.question in
    let i = c.loop-one.one-index in
    let item = c.one-item.result in
    let within : i < length news = search (rules, c.loop-one-test.true) in
    let next : drop i news ≡ item ∷ drop (i + 1) news = drop_more news i item within ∙ ap (λ (n : News). n ∷ drop (i + 1) news) (sym c.one-item.is) in
    let takes : Takes c.loop-one.reading item.member (bit_in c.in_ok-worth.worth) c.take_bit.new.reading =
    subst (λ (b : Option Bool). Takes c.loop-one.reading item.member b c.take_bit.new.reading) c.bit_in.ensures c.take_bit.ensures in
    c.loop-one.invariant new
    (subst (λ (ns : List News). TakesProofs size question ns c.loop-one.reading new) (sym next)
    (taken_more size question item (drop (i + 1) news) c.loop-one.reading c.take_bit.new.reading new c.in_ok-worth.worth c.in_ok-worth.ensures takes rest))

pub returns : goal.returns
returns c =
    let news : List News = c.args.news.now in
    let size = c.args.size in
    let question = c.args.question in
    let end : drop c.loop-one.one-index news ≡ [] = drop_all c.loop-one.one-index news (search (rules, c.loop-one-test.false)) in
    c.loop-one.invariant c.loop-one.reading
    (subst (λ (ns : List News). TakesProofs size question ns c.loop-one.reading c.loop-one.reading) (sym end) (taken_none size question c.loop-one.reading))
