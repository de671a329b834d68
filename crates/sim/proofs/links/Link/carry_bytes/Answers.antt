use Rattle.std.proofs.Common.{◌≡◌, ◌∷◌, [], ◌∙◌, sym, ap, subst, Some, List, ℕ}
use Rattle.terms_prelude.specs.Terms.{Size, Statement, IsSize, IsWellFormed}
use Rattle.wire.specs.declared.message.Message.TheVariants as message
use Rattle.wire.specs.Words.{Feeds}
use Rattle.sim.specs.Links.{LinkFields}
use Rattle.sim.proofs.Reading.{arrives}
use Rattle.sim.proofs.links.Link.carry_bytes.Goals as goal

pub returns-in-Some-clause-arrives : goal.returns-in-Some-clause-arrives
returns-in-Some-clause-arrives c lawful well at =
    let feeds = subst (λ (b : List ℕ). Feeds c.self.inside.feeder.size c.self.inside.feeder.end b [] (message.Statement c.in-Some.arrived ∷ []) c.self.inside.feeder.end) c.encode_alone-frame.ensures c.in-Some.ensures.reads in
    let size = sym (ap (λ (l : LinkFields). l.size) c.self.view_is) in
    let same : message.Statement c.in-Some.arrived ∷ [] ≡ message.Statement c.args.statement.now ∷ [] =
    (arrives c.self.inside.feeder.size (message.Statement c.args.statement.now) c.self.inside.feeder.end c.self.inside.feeder.end (message.Statement c.in-Some.arrived ∷ [])
    (subst (λ (s : Size). IsSize s) size lawful) (subst (λ (s : Size). IsWellFormed s c.args.statement.now) size well)
    (ap (λ (l : LinkFields). l.end) c.self.view_is ∙ at) feeds).0 in
    let one : c.in-Some.arrived ≡ c.args.statement.now = cc in
    ap (λ (s : Statement). Some s) one

pub returns-clause-arrives : goal.returns-clause-arrives
returns-clause-arrives c lawful well at =
    let feeds = subst (λ (b : List ℕ). Feeds c.self.inside.feeder.size c.self.inside.feeder.end b [] c.read.new.messages.items c.read.new.feeder.end) c.encode_alone-frame.ensures c.in_ok-self-inside.ensures.reads in
    let size = sym (ap (λ (l : LinkFields). l.size) c.self.view_is) in
    c.statement_alone.ensures c.args.statement.now
    (c.deref.ensures.value ∙ (arrives c.self.inside.feeder.size (message.Statement c.args.statement.now) c.self.inside.feeder.end c.read.new.feeder.end c.read.new.messages.items
    (subst (λ (s : Size). IsSize s) size lawful) (subst (λ (s : Size). IsWellFormed s c.args.statement.now) size well)
    (ap (λ (l : LinkFields). l.end) c.self.view_is ∙ at) feeds).0)

pub returns-clause-end : goal.returns-clause-end
returns-clause-end c lawful well at =
    let feeds = subst (λ (b : List ℕ). Feeds c.self.inside.feeder.size c.self.inside.feeder.end b [] c.read.new.messages.items c.read.new.feeder.end) c.encode_alone-frame.ensures c.in_ok-self-inside.ensures.reads in
    let size = sym (ap (λ (l : LinkFields). l.size) c.self.view_is) in
    (arrives c.self.inside.feeder.size (message.Statement c.args.statement.now) c.self.inside.feeder.end c.read.new.feeder.end c.read.new.messages.items
    (subst (λ (s : Size). IsSize s) size lawful) (subst (λ (s : Size). IsWellFormed s c.args.statement.now) size well)
    (ap (λ (l : LinkFields). l.end) c.self.view_is ∙ at) feeds).1
