use Rattle.std.proofs.Common.{◌≤◌, ◌+◌, refl, sym, ◌∙◌, arith, min}
use Rattle.sim.specs.Presences.{saved_in}
use Rattle.sim.proofs.Groups.{no_some, one_taken, taken_short}
use Rattle.sim.proofs.posts.Post.group.Goals as goal

pub returns-in_default-clause-statements : goal.returns-in_default-clause-statements
returns-in_default-clause-statements c =
    let l : c.loop-taken._taken ≤ min c.args.count 256 = omega (arith, c.loop-taken-test.true, c.min-taken-end.ensures) in
    taken_short (saved_in c.args.self.now.presence) c.args.number c.loop-taken._taken c.loop-taken.statements.items c.loop-taken.place c.loop-taken.invariant c.args.count
    (sym c.statement.ensures.said ∙ no_some c.statement.result c.in_default.not-Some) l

pub loop-taken-preserved : goal.loop-taken-preserved
loop-taken-preserved c =
    one_taken (saved_in c.args.self.now.presence) c.args.number c.loop-taken._taken c.loop-taken.statements.items c.loop-taken.place c.loop-taken.invariant c.in-Some.statement
    c.push.new.self.items (c.loop-taken.place + 1) (sym c.statement.ensures.said ∙ c.in-Some.is) c.in_ok-push.ensures.items refl
