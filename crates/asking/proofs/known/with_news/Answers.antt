use Rattle.std.proofs.Common.{rules, ◌≡◌, ◌<◌, ◌+◌, ◌∷◌, ◌∙◌, ◌||◌, List, length, drop, sym, ap}
use Rattle.std.proofs.lemmas.List.{drop_more}
use Rattle.asking.proofs.Marking.{news_on}
use Rattle.asking.specs.Marks.{has_news, is_marked}
use Rattle.asking.specs.declared.board.News.{News}
use Rattle.asking.proofs.known.with_news.Goals as goal

pub loop-one-preserved : goal.loop-one-preserved
loop-one-preserved c = λ member below.
    let news : List News = c.args.news.now in
    let i = c.loop-one.one-index in
    let item = c.one-item.result in
    let within : i < length news = search (rules, c.loop-one-test.true) in
    let next : drop i news ≡ item ∷ drop (i + 1) news = drop_more news i item within ∙ ap (λ (n : News). n ∷ drop (i + 1) news) (sym c.one-item.is) in
    news_on c.loop-one.all c.with_member-all.result item (drop (i + 1) news) member (c.with_member-all.ensures member below)
    ∙ ap (λ (left : List News). is_marked c.loop-one.all member || has_news left member) (sym next)
    ∙ c.loop-one.invariant member below
