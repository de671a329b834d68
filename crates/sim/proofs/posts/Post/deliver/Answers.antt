use Rattle.std.proofs.Common.{◌≡◌, ℕ, [], IfOk, length, get_or, refl, sym, ap, subst, ◌∙◌, true}
use Rattle.terms_prelude.specs.Terms.{Size, Header, Statement, IsSize, IsWellFormed, Hearing}
use Rattle.wire.specs.Reading.{Rest}
use Rattle.world.specs.World.{has_sent}
use Rattle.sim.specs.Words.{Link, IsMove, Answers}
use Rattle.sim.proofs.Done.{mapped, delivered}
use Rattle.sim.proofs.posts.Post.deliver.Goals as goal

pub returns-clause-done : goal.returns-clause-done
returns-clause-done c size liars s p lawful below post fits bytes =
    let len : length c.args.self.now.incoming.items ≡ size.n = c.requires.ready.wide ∙ ap (λ (h : Header). h.size.n) post.header in
    let old : Link = c.index_mut-link.result.now in
    let there : c.index_mut-link.result.now ≡ get_or c.args.self.now.incoming.items c.args.from c.index_mut-link.result.now =
    c.index_mut-link.ensures.value ∙ ap (λ (j : ℕ). get_or c.args.self.now.incoming.items j c.index_mut-link.result.now) c.from.ensures in
    let first = post.links c.args.from c.index_mut-link.result.now fits.2 in
    let its_size : c.go_to.new.self.size ≡ size = c.go_to.ensures.size ∙ ap (λ (l : Link). l.size) there ∙ first.size_is in
    let its_end : c.go_to.new.self.end ≡ Rest [] = c.go_to.ensures.end ∙ ap (λ (l : Link). l.end) there ∙ first.whole fits.1 in
    let fit : IsSize c.go_to.new.self.size = subst (λ (x : Size). IsSize x) (sym its_size) lawful in
    let well : IsWellFormed c.go_to.new.self.size c.args.statement = subst (λ (x : Size). IsWellFormed x c.args.statement) (sym its_size) fits.4 in
    let same : c.carry.new.statement ≡ c.args.statement = (c.in_ok-carry.ensures.arrives fit well its_end).1 in
    let sent : has_sent s.world.sent c.args.from c.carry.new.statement ≡ true = ap (λ (x : Statement). has_sent s.world.sent c.args.from x) same ∙ fits.3 in
    let moved = c.hear.ensures.moved size liars p s.world (record { member = below; honest = fits.0.0 }) fits.0.1 (post.at fits.0.0) sent in
    mapped _ _ c.hear.result
    (subst (λ (x : Statement). IfOk c.hear.result (λ mark. IsMove size liars p s.world (Answers size p s.world c.args.self.now.fused c.args.toss.0 (Hearing c.args.from x) mark) c.hear.new.self)) same moved)
    (λ mark move. delivered size liars s p c.args.self.now post below c.args.from c.args.statement c.args.place c.args.toss bytes mark _ c.from.result c.carry.new.self
    len fits c.from.ensures (c.carry.ensures.place ∙ c.go_to.ensures.place) (c.carry.ensures.size ∙ its_size) (c.in_ok-carry.ensures.end fit well its_end)
    refl c.hear.ensures.side refl refl move)

pub returns-clause-memory : goal.returns-clause-memory
returns-clause-memory c size liars s p lawful below post fits may =
    let old : Link = c.index_mut-link.result.now in
    let there : c.index_mut-link.result.now ≡ get_or c.args.self.now.incoming.items c.args.from c.index_mut-link.result.now =
    c.index_mut-link.ensures.value ∙ ap (λ (j : ℕ). get_or c.args.self.now.incoming.items j c.index_mut-link.result.now) c.from.ensures in
    let first = post.links c.args.from c.index_mut-link.result.now fits.2 in
    let its_size : c.go_to.new.self.size ≡ size = c.go_to.ensures.size ∙ ap (λ (l : Link). l.size) there ∙ first.size_is in
    let its_end : c.go_to.new.self.end ≡ Rest [] = c.go_to.ensures.end ∙ ap (λ (l : Link). l.end) there ∙ first.whole fits.1 in
    let fit : IsSize c.go_to.new.self.size = subst (λ (x : Size). IsSize x) (sym its_size) lawful in
    let well : IsWellFormed c.go_to.new.self.size c.args.statement = subst (λ (x : Size). IsWellFormed x c.args.statement) (sym its_size) fits.4 in
    let same : c.carry.new.statement ≡ c.args.statement = (c.in_ok-carry.ensures.arrives fit well its_end).1 in
    let sent : has_sent s.world.sent c.args.from c.carry.new.statement ≡ true = ap (λ (x : Statement). has_sent s.world.sent c.args.from x) same ∙ fits.3 in
    c.hear.ensures.memory size liars p s.world (record { member = below; honest = fits.0.0 }) fits.0.1 (post.at fits.0.0) sent may
