use Rattle.std.proofs.Common.{◌≡◌, ℕ, [], List, length, get_or, refl, sym, ap, subst, ◌∙◌, map}
use Rattle.std.specs.List.{AllByRecursion}
use Rattle.terms_prelude.specs.Terms.{Size, Header, Statement, IsSize, IsWellFormed}
use Rattle.wire.specs.Reading.{Rest}
use Rattle.member.specs.Groups.{hearings, AllCome}
use Rattle.sim.specs.Words.{Link, hearings_from, group_of}
use Rattle.sim.proofs.Done.{mapped, delivered_all}
use Rattle.sim.proofs.Groups.{all_formed_of, all_come, hearings_are}
use Rattle.sim.proofs.posts.Post.deliver_all.Goals as goal

pub returns-clause-done : goal.returns-clause-done
returns-clause-done c size liars s p count lawful below post fits brings bytes =
    let len : length c.args.self.now.incoming.items ≡ size.n = c.requires.ready.wide ∙ ap (λ (h : Header). h.size.n) post.header in
    let there : c.index_mut-link.result.now ≡ get_or c.args.self.now.incoming.items c.args.from c.index_mut-link.result.now =
    c.index_mut-link.ensures.value ∙ ap (λ (j : ℕ). get_or c.args.self.now.incoming.items j c.index_mut-link.result.now) c.from.ensures in
    let first = post.links c.args.from c.index_mut-link.result.now fits.2 in
    let its_size : c.go_to.new.self.size ≡ size = c.go_to.ensures.size ∙ ap (λ (l : Link). l.size) there ∙ first.size_is in
    let its_end : c.go_to.new.self.end ≡ Rest [] = c.go_to.ensures.end ∙ ap (λ (l : Link). l.end) there ∙ first.whole fits.1 in
    let fit : IsSize c.go_to.new.self.size = subst (λ (x : Size). IsSize x) (sym its_size) lawful in
    let group : List Statement = group_of s c.args.from p count in
    let lent : c.deref.result.now ≡ group = c.deref.ensures.value ∙ brings.0 in
    let well : AllByRecursion (IsWellFormed c.go_to.new.self.size) c.deref.result.now =
    subst (λ (x : Size). AllByRecursion (IsWellFormed x) c.deref.result.now) (sym its_size)
    (subst (λ (l : List Statement). AllByRecursion (IsWellFormed size) l) (sym lent) (all_formed_of size s c.args.from group fits.3)) in
    let hears : hearings c.deref-2.result.now ≡ hearings_from c.args.from c.args.toss.0 group =
    ap hearings (c.deref-2.ensures.value ∙ c.in_ok-arrived.ensures.arrive fit well its_end ∙ ap (λ (l : List Statement). map (λ x. (c.args.from, x, c.args.toss)) l) lent)
    ∙ hearings_are c.args.from c.args.toss group in
    let come : AllCome s.world (hearings c.deref-2.result.now) =
    subst (λ (es : List (ℕ × Statement × ℕ)). AllCome s.world es) (sym hears) (all_come size s c.args.from c.args.toss.0 group fits.3) in
    mapped _ _ c.hear_all.result
    (c.hear_all.ensures.moved size liars p s.world (record { member = below; honest = fits.0.0 }) fits.0.1 (post.at fits.0.0) come)
    (λ mark move. delivered_all size liars s p c.args.self.now post below c.args.from count c.args.toss bytes mark _ c.from.result c.carry_all.new.self (hearings c.deref-2.result.now)
    len fits c.from.ensures (c.carry_all.ensures.place ∙ c.go_to.ensures.place ∙ brings.1) (c.carry_all.ensures.size ∙ its_size) (c.in_ok-arrived.ensures.end fit well its_end)
    refl c.hear_all.ensures.side refl refl hears move)

pub returns-clause-memory : goal.returns-clause-memory
returns-clause-memory c size liars s p count lawful below post fits brings may =
    let there : c.index_mut-link.result.now ≡ get_or c.args.self.now.incoming.items c.args.from c.index_mut-link.result.now =
    c.index_mut-link.ensures.value ∙ ap (λ (j : ℕ). get_or c.args.self.now.incoming.items j c.index_mut-link.result.now) c.from.ensures in
    let first = post.links c.args.from c.index_mut-link.result.now fits.2 in
    let its_size : c.go_to.new.self.size ≡ size = c.go_to.ensures.size ∙ ap (λ (l : Link). l.size) there ∙ first.size_is in
    let its_end : c.go_to.new.self.end ≡ Rest [] = c.go_to.ensures.end ∙ ap (λ (l : Link). l.end) there ∙ first.whole fits.1 in
    let fit : IsSize c.go_to.new.self.size = subst (λ (x : Size). IsSize x) (sym its_size) lawful in
    let group : List Statement = group_of s c.args.from p count in
    let lent : c.deref.result.now ≡ group = c.deref.ensures.value ∙ brings.0 in
    let well : AllByRecursion (IsWellFormed c.go_to.new.self.size) c.deref.result.now =
    subst (λ (x : Size). AllByRecursion (IsWellFormed x) c.deref.result.now) (sym its_size)
    (subst (λ (l : List Statement). AllByRecursion (IsWellFormed size) l) (sym lent) (all_formed_of size s c.args.from group fits.3)) in
    let hears : hearings c.deref-2.result.now ≡ hearings_from c.args.from c.args.toss.0 group =
    ap hearings (c.deref-2.ensures.value ∙ c.in_ok-arrived.ensures.arrive fit well its_end ∙ ap (λ (l : List Statement). map (λ x. (c.args.from, x, c.args.toss)) l) lent)
    ∙ hearings_are c.args.from c.args.toss group in
    let come : AllCome s.world (hearings c.deref-2.result.now) =
    subst (λ (es : List (ℕ × Statement × ℕ)). AllCome s.world es) (sym hears) (all_come size s c.args.from c.args.toss.0 group fits.3) in
    c.hear_all.ensures.memory size liars p s.world (record { member = below; honest = fits.0.0 }) fits.0.1 (post.at fits.0.0) come may
