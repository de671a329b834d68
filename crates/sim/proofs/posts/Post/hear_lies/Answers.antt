use Rattle.std.proofs.Common.{◌≡◌, length, refl, sym, ap, ◌∙◌, false, subst, List, IfOk}
use Rattle.std.specs.List.{AllByRecursion}
use Rattle.terms_prelude.specs.Terms.{IsWellFormed, Header, Statement}
use Rattle.sim.specs.Words.{is_broken_at, IsMove, AreLies}
use Rattle.sim.proofs.Done.{mapped, broken, lies_formed, lies_done}
use Rattle.sim.proofs.posts.Post.hear_lies.Goals as goal

pub returns-then-is_broken-clause-done : goal.returns-then-is_broken-clause-done
returns-then-is_broken-clause-done c size liars s p lawful below post fits =
    let len : length c.args.self.now.incoming.items ≡ size.n = c.requires.ready.wide ∙ ap (λ (h : Header). h.size.n) post.header in
    broken size liars s p c.args.self.now post below c.args.liar c.args.toss c.args.bytes.now _ c.from.result len fits.2 c.from.ensures c.index_mut-link.result.now
    c.index_mut-link.ensures.value (sym c.if-is_broken.ensures) refl refl refl refl

pub returns-clause-done : goal.returns-clause-done
returns-clause-done c size liars s p lawful below post fits =
    let len : length c.args.self.now.incoming.items ≡ size.n = c.requires.ready.wide ∙ ap (λ (h : Header). h.size.n) post.header in
    let unbroken : is_broken_at c.index_mut-link.result.now.end ≡ false = sym c.if-is_broken.ensures in
    let formed : AllByRecursion (IsWellFormed size) c.in_ok-statements.statements.items =
    lies_formed size liars s p c.args.self.now post below c.args.liar c.args.toss c.args.bytes.now c.from.result len fits.1 fits.2 c.from.ensures
    c.index_mut-link.result.now c.take.new.self c.index_mut-link.ensures.value unbroken c.in_ok-statements.statements.items c.take.ensures.place c.take.ensures.size c.in_ok-statements.ensures.takes in
    let all : c.deref.result.now ≡ c.in_ok-statements.statements.items = c.deref.ensures.value in
    let moved = c.hear_each.ensures.moved size liars p s.world (record { member = below; honest = fits.0.0 }) fits.0.1 (post.at fits.0.0) fits.2 fits.1
    (subst (λ (l : List Statement). AllByRecursion (IsWellFormed size) l) (sym all) formed) in
    mapped _ _ c.hear_each.result
    (subst (λ (l : List Statement). IfOk c.hear_each.result (λ mark. IsMove size liars p s.world (AreLies size p s.world c.args.self.now.fused c.args.liar c.args.toss.0 l mark) c.hear_each.new.self)) all moved)
    (λ mark move. lies_done size liars s p c.args.self.now post below c.args.liar c.args.toss c.args.bytes.now c.from.result len fits.1 fits.2 c.from.ensures
    c.index_mut-link.result.now c.take.new.self c.index_mut-link.ensures.value unbroken c.in_ok-statements.statements.items c.take.ensures.place c.take.ensures.size c.in_ok-statements.ensures.takes
    mark _ fits.0.0 refl c.hear_each.ensures.side refl refl move)

pub returns-clause-memory : goal.returns-clause-memory
returns-clause-memory c size liars s p lawful below post fits may =
    let len : length c.args.self.now.incoming.items ≡ size.n = c.requires.ready.wide ∙ ap (λ (h : Header). h.size.n) post.header in
    let unbroken : is_broken_at c.index_mut-link.result.now.end ≡ false = sym c.if-is_broken.ensures in
    let formed : AllByRecursion (IsWellFormed size) c.in_ok-statements.statements.items =
    lies_formed size liars s p c.args.self.now post below c.args.liar c.args.toss c.args.bytes.now c.from.result len fits.1 fits.2 c.from.ensures
    c.index_mut-link.result.now c.take.new.self c.index_mut-link.ensures.value unbroken c.in_ok-statements.statements.items c.take.ensures.place c.take.ensures.size c.in_ok-statements.ensures.takes in
    let all : c.deref.result.now ≡ c.in_ok-statements.statements.items = c.deref.ensures.value in
    c.hear_each.ensures.memory size liars p s.world (record { member = below; honest = fits.0.0 }) fits.0.1 (post.at fits.0.0) fits.2 fits.1
    (subst (λ (l : List Statement). AllByRecursion (IsWellFormed size) l) (sym all) formed) may
