use Rattle.std.proofs.Common.{◌∙◌, ◌++◌, ◌∷◌, [], List, ℕ, not, ap, inr, rules}
use Rattle.chain.specs.declared.opening.Ask.{Ask}
use Rattle.epochs.specs.Asking.{is_ask}
use Rattle.epochs.proofs.Standing.{contains-pushed, filter-pushed}
use Rattle.epochs.proofs.AskLemmas.{is_ask-itself, few-same, few-pushed}
use Rattle.epochs.proofs.asks.Asks.add.Goals as goal

pub returns-clause-taken : goal.returns-clause-taken
returns-clause-taken c =
    let ask = c.args.ask in
    let second = c.args.self.now.second in
    inr (contains-pushed c.args.self.now.list.items _ c.args.self.now.heard.items _ ask second
    (c.push_reserved.ensures.items ∙ ap (λ (l : List Ask). l ++ ask ∷ []) c.reserve.ensures.items)
    (c.push_reserved-2.ensures.items ∙ ap (λ (l : List ℕ). l ++ second ∷ []) c.reserve-2.ensures.items)
    c.args.self.now.paired)

pub returns-clause-others : goal.returns-clause-others
returns-clause-others c =
    let ask = c.args.ask in
    let second = c.args.self.now.second in
    filter-pushed (λ one. not (is_ask ask one)) c.args.self.now.list.items _ c.args.self.now.heard.items _ ask second
    (ap not (is_ask-itself ask))
    (c.push_reserved.ensures.items ∙ ap (λ (l : List Ask). l ++ ask ∷ []) c.reserve.ensures.items)
    (c.push_reserved-2.ensures.items ∙ ap (λ (l : List ℕ). l ++ second ∷ []) c.reserve-2.ensures.items)
    c.args.self.now.paired

pub invariant_of-self : goal.invariant_of-self
invariant_of-self c = record {
  paired = search rules;
  few = few-same c.args.self.now.list.items _ c.reserve.ensures.items c.args.self.now.few;
}

pub invariant_of-self-in-Break-branch-2 : goal.invariant_of-self-in-Break-branch-2
invariant_of-self-in-Break-branch-2 c = record {
  paired = search rules;
  few = few-same c.args.self.now.list.items _ c.reserve.ensures.items c.args.self.now.few;
}

pub invariant_of-self-2-clause-few : goal.invariant_of-self-2-clause-few
invariant_of-self-2-clause-few c =
    few-pushed c.args.self.now.list.items _ c.args.ask (search rules) c.args.self.now.few
    (c.push_reserved.ensures.items ∙ ap (λ (l : List Ask). l ++ c.args.ask ∷ []) c.reserve.ensures.items)
