use Rattle.std.proofs.Common.{rules, ◌≡◌, ◌<◌, ◌+◌, List, [], ◌∷◌, ◌++◌, length, drop, sym, ap, ◌∙◌, append_assoc}
use Rattle.std.proofs.lemmas.List.{drop_more}
use Rattle.terms_prelude.specs.Terms.{Statement}
use Rattle.node.specs.Groups.{said_in}
use Rattle.links.proofs.Tossing.{some_on}
use Rattle.links.proofs.reader.push_each.Goals as goal

pub returns-in_err-push_tossed-clause-spent : goal.returns-in_err-push_tossed-clause-spent
returns-in_err-push_tossed-clause-spent g c =
    some_on g.T.Tosser.may_toss c.args.tosser.now c.loop-statement.tosser c.push_tossed.new.tosser c.loop-statement.invariant.2 c.push_tossed.ensures.spent

pub loop-statement-preserved : goal.loop-statement-preserved
loop-statement-preserved g c =
    let all : List Statement = c.args.statements.now in
    let i = c.loop-statement.statement-index in
    let item = c.statement-item.result in
    let so_far : List Statement = said_in c.loop-statement.events.items in
    let within : i < length all = search (rules, c.loop-statement-test.true) in
    let next : drop i all ≡ item ∷ drop (i + 1) all = drop_more all i item within ∙ ap (λ (s : Statement). s ∷ drop (i + 1) all) (sym c.statement-item.is) in (
      ap (λ (l : List Statement). l ++ drop (i + 1) all) c.in_ok-push_tossed.ensures.said ∙ append_assoc so_far (item ∷ []) (drop (i + 1) all)
          ∙ ap (λ (l : List Statement). so_far ++ l) (sym next) ∙ c.loop-statement.invariant.0,
      λ begun drawn. c.in_ok-push_tossed.ensures.toss begun (c.loop-statement.invariant.1 begun drawn),
      some_on g.T.Tosser.may_toss c.args.tosser.now c.loop-statement.tosser c.push_tossed.new.tosser c.loop-statement.invariant.2 c.push_tossed.ensures.spent,
    )
