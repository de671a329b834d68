use Rattle.std.proofs.Common.{◌≡◌, ◌≤◌, ◌++◌, ◌∙◌, sym, ap, subst, List, ℕ, length, arith, map}
use Rattle.std.specs.List.{AllByRecursion}
use Rattle.terms_prelude.specs.Terms.{Size, Statement, IsSize, IsWellFormed}
use Rattle.wire.specs.Words.{frame_bytes}
use Rattle.sim.specs.Links.{LinkFields}
use Rattle.sim.proofs.Reading.{part_arrives, together_alone}
use Rattle.sim.proofs.links.Link.carry_part.Goals as goal

pub returns-clause-end : goal.returns-clause-end
returns-clause-end c lawful well at =
    let size = sym (ap (λ (l : LinkFields). l.size) c.self.view_is) in
    (part_arrives c.self.inside.feeder.size c.args.part.now c.in_ok-message.message c.self.inside.feeder.end c.read.new.feeder.end c.deref.result.now c.read.new.messages.items
    c.requires.some c.requires.most c.in_ok-message.ensures
    (c.deref.ensures.value ∙ c.in_ok-encode.ensures.ok ∙ ap (λ (l : List ℕ). l ++ frame_bytes c.in_ok-message.message) c.clear.ensures.items)
    (subst (λ (s : Size). IsSize s) size lawful)
    (subst (λ (s : Size). AllByRecursion (IsWellFormed s) c.args.part.now) size well)
    (ap (λ (l : LinkFields). l.end) c.self.view_is ∙ at) c.in_ok-self-inside.ensures.reads).1

pub returns-clause-arrive : goal.returns-clause-arrive
returns-clause-arrive c lawful well at =
    let size = sym (ap (λ (l : LinkFields). l.size) c.self.view_is) in
    let read = part_arrives c.self.inside.feeder.size c.args.part.now c.in_ok-message.message c.self.inside.feeder.end c.read.new.feeder.end c.deref.result.now c.read.new.messages.items
    c.requires.some c.requires.most c.in_ok-message.ensures
    (c.deref.ensures.value ∙ c.in_ok-encode.ensures.ok ∙ ap (λ (l : List ℕ). l ++ frame_bytes c.in_ok-message.message) c.clear.ensures.items)
    (subst (λ (s : Size). IsSize s) size lawful)
    (subst (λ (s : Size). AllByRecursion (IsWellFormed s) c.args.part.now) size well)
    (ap (λ (l : LinkFields). l.end) c.self.view_is ∙ at) c.in_ok-self-inside.ensures.reads in
    let alone : c.statements_alone.result.now ≡ c.args.part.now =
    together_alone c.args.part.now c.statements_alone.result.now c.deref-2.result.now c.requires.some (c.deref-2.ensures.value ∙ read.0)
    c.statements_alone.ensures.one c.statements_alone.ensures.several in
    let few : length c.statements_alone.result.now ≤ length c.args.part.now = let l = ap (λ (xs : List Statement). length xs) alone in omega (arith, l) in
    let all : c.at_most.result.now ≡ c.args.part.now = c.at_most.ensures.all few ∙ alone in
    c.in_ok-add_tossed.ensures ∙ ap (λ (l : List Statement). c.args.all.now.items ++ map (λ s. (c.args.from, s, c.args.toss)) l) all
