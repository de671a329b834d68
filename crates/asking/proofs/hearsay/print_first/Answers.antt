use Rattle.std.proofs.Common.{rules, ◌≡◌, ◌<◌, ◌+◌, ℕ, [], ◌∷◌, ◌∙◌, List, Option, length, drop, inr, sym, ap, subst}
use Rattle.std.proofs.lemmas.List.{drop_all, drop_more}
use Rattle.std.specs.Io.KnownBytes.{Appends}
use Rattle.std.specs.List.{AllByRecursion}
use Rattle.asking.proofs.Proving.{keeps_same, none_from, printed_first, proof_from}
use Rattle.asking.specs.Hearsay.{IsFirstProof, SentNoProof}
use Rattle.asking.specs.declared.board.News.{News}
use Rattle.asking.proofs.hearsay.print_first.Goals as goal

pub returns-in-Some : goal.returns-in-Some
returns-in-Some g c =
    let news : List News = c.args.news.now in
    let size = c.args.size in
    let question = c.args.question in
    let i = c.loop-one.one-index in
    let item = c.one-item.result in
    let within : i < length news = search (rules, c.loop-one-test.true) in
    let next : drop i news ≡ item ∷ drop (i + 1) news = drop_more news i item within ∙ ap (λ (n : News). n ∷ drop (i + 1) news) (sym c.one-item.is) in
    let proof = proof_from size question item c.in_ok-worth.worth c.in-Some.bit c.in-Some.ensures c.in_ok-worth.ensures in
    let printed = printed_first size question c.in-Some.bit item (drop (i + 1) news)
    (g.W.Write.contents c.loop-one.output) (g.W.Write.contents c.print_reply.new.output) proof c.in_ok-print_reply-in-Some.ensures in (
      printed.0,
      c.loop-one.invariant.0 printed.0 (subst (λ (ns : List News). IsFirstProof size question ns printed.0) (sym next) printed.1),
      subst (λ (known : Option (List ℕ)). Appends known (g.W.Write.contents c.print_reply.new.output) printed.0) c.loop-one.invariant.2 printed.2,
    )

pub loop-one-preserved : goal.loop-one-preserved
loop-one-preserved g c =
    let news : List News = c.args.news.now in
    let size = c.args.size in
    let question = c.args.question in
    let i = c.loop-one.one-index in
    let item = c.one-item.result in
    let within : i < length news = search (rules, c.loop-one-test.true) in
    let next : drop i news ≡ item ∷ drop (i + 1) news = drop_more news i item within ∙ ap (λ (n : News). n ∷ drop (i + 1) news) (sym c.one-item.is) in
    let none = none_from size question item c.in_ok-worth.worth c.in-None.ensures c.in_ok-worth.ensures in (
      λ reply first. c.loop-one.invariant.0 reply (subst (λ (ns : List News). IsFirstProof size question ns reply) (sym next) (inr (none, first))),
      λ all. c.loop-one.invariant.1 (subst (λ (ns : List News). AllByRecursion (SentNoProof size question) ns) (sym next) (none, all)),
      c.loop-one.invariant.2,
    )

pub returns : goal.returns
returns g c =
    let news : List News = c.args.news.now in
    let size = c.args.size in
    let question = c.args.question in
    let end : drop c.loop-one.one-index news ≡ [] = drop_all c.loop-one.one-index news (search (rules, c.loop-one-test.false)) in
    (c.loop-one.invariant.1 (subst (λ (ns : List News). AllByRecursion (SentNoProof size question) ns) (sym end) tt), keeps_same _ _ c.loop-one.invariant.2)
