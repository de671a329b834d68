use Rattle.std.proofs.Common.{◌≡◌, ◌++◌, ◌∙◌, List, [], true, false, rules, sym, ap, append_assoc, append-nil}
use Rattle.terms_prelude.specs.Terms.{Record}
use Rattle.commands.proofs.dump.gather.Goals as goal

pub batches-init : goal.batches-init
batches-init c = λ left has.
    let none : c.new-all.result.items ≡ [] = search rules in
    (left, ap (λ (l : List Record). l ++ left) (sym none), has)

pub batches-preserved : goal.batches-preserved
batches-preserved c = λ left has.
    let before = c.batches.invariant left has in
    let one : c.in-Ok-true.field-0 ≡ true = search (rules, c.in-Ok-true.field-0-test) in
    let more = c.in-Ok-true.ensures.some before.0 before.2 one in
    let all : c.extend_from_slice.new.self.items ≡ c.batches.all.items ++ c.deref.result.now = search (rules, c.in_ok-extend_from_slice-in-Ok-true.ensures.items) in (
      more.0,
      before.1 ∙ ap (λ (l : List Record). c.batches.all.items ++ l) more.1
          ∙ sym (append_assoc c.batches.all.items c.next.new.records.items more.0)
          ∙ ap (λ (l : List Record). l ++ more.0) (sym (all ∙ ap (λ (l : List Record). c.batches.all.items ++ l) c.deref.ensures.value)),
      more.2,
    )

pub returns-in-Ok-false : goal.returns-in-Ok-false
returns-in-Ok-false c = λ left has.
    let before = c.batches.invariant left has in
    let over : c.in-Ok-false.field-0 ≡ false = search (rules, c.in-Ok-false.field-0-test) in
    let none : before.0 ≡ [] = c.in-Ok-false.ensures.none before.0 before.2 over in
    sym (before.1 ∙ ap (λ (l : List Record). c.batches.all.items ++ l) none ∙ append-nil c.batches.all.items)
