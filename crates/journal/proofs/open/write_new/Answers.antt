use Rattle.std.proofs.Common.{◌≡◌, ◌∙◌, ℕ, List, [], length, arith, ap, subst}
use Rattle.std.proofs.lemmas.List.{nil_from_length}
use Rattle.disk.specs.Model.{State, MayLeave, after_write, at_rest, overwritten}
use Rattle.disk.proofs.Moments.{started, goes_on}
use Rattle.disk.proofs.Outcomes.{widen}
use Rattle.journal.proofs.Opened.{over_nothing}
use Rattle.journal.proofs.Spared.{spared_by_a_look, spared_if_empty}
use Rattle.journal.proofs.open.write_new.Goals as goal

pub returns-in_err-len-clause-any_moment : goal.returns-in_err-len-clause-any_moment
returns-in_err-len-clause-any_moment g c keeps1 =
    let keeps0 = c.len.ensures.kept keeps1 in
    let old = c.args.disk.now in
    let text : List ℕ = c.args.bytes.now in
    let P : List ℕ → Type 0 = MayLeave (after_write (g.D.Disk.state old) 0 text) in
    let at_start = started g.D.Disk.moment g.D.Disk.since g.D.Disk.state old P (λ f left. widen (g.D.Disk.state old) 0 text f (g.met.D.Disk.only_now old f keeps0 left)) in
    goes_on g.D.Disk.moment g.D.Disk.since g.D.Disk.state old old c.len.new.self P c.len.result at_start (c.len.ensures.time keeps1)
    (λ f may. widen (g.D.Disk.state old) 0 text f (subst (λ (s : State). MayLeave s f) (c.len.ensures.same keeps1) may))

pub returns-then-branch-ne0-clause-any_moment : goal.returns-then-branch-ne0-clause-any_moment
returns-then-branch-ne0-clause-any_moment g c keeps1 =
    let keeps0 = c.len.ensures.kept keeps1 in
    let old = c.args.disk.now in
    let text : List ℕ = c.args.bytes.now in
    let P : List ℕ → Type 0 = MayLeave (after_write (g.D.Disk.state old) 0 text) in
    let at_start = started g.D.Disk.moment g.D.Disk.since g.D.Disk.state old P (λ f left. widen (g.D.Disk.state old) 0 text f (g.met.D.Disk.only_now old f keeps0 left)) in
    goes_on g.D.Disk.moment g.D.Disk.since g.D.Disk.state old old c.len.new.self P c.len.result at_start (c.len.ensures.time keeps1)
    (λ f may. widen (g.D.Disk.state old) 0 text f (subst (λ (s : State). MayLeave s f) (c.len.ensures.same keeps1) may))

pub returns-clause-file : goal.returns-clause-file
returns-clause-file g c keeps3 =
    let keeps2 = c.sync.ensures.kept keeps3 in
    let keeps1 = c.write_at.ensures.kept keeps2 in
    let seen = (g.D.Disk.state c.len.new.self).seen in
    let none : seen ≡ [] = nil_from_length seen (omega (arith, c.in_ok-len.ensures.answer keeps1, ap (λ (s : State). length s.seen) (c.len.ensures.same keeps1), c.if-branch-ne0.false)) in
    c.in_ok-sync.ensures.synced keeps3 ∙ ap (λ (s : State). at_rest s.seen) (c.in_ok-write_at.ensures.written keeps2)
    ∙ ap (λ (l : List ℕ). at_rest (overwritten l 0 c.args.bytes.now)) none ∙ ap at_rest (over_nothing c.args.bytes.now)

pub returns-in_err-len-clause-spared : goal.returns-in_err-len-clause-spared
returns-in_err-len-clause-spared g c =
    spared_by_a_look g.D.Disk c.args.disk.now c.len.new.self c.len.result g.met.D.Disk.only_now c.len.ensures.kept c.len.ensures.same c.len.ensures.time

pub returns-then-branch-ne0-clause-spared : goal.returns-then-branch-ne0-clause-spared
returns-then-branch-ne0-clause-spared g c =
    spared_by_a_look g.D.Disk c.args.disk.now c.len.new.self c.len.result g.met.D.Disk.only_now c.len.ensures.kept c.len.ensures.same c.len.ensures.time

pub returns-in_err-write_at-clause-spared : goal.returns-in_err-write_at-clause-spared
returns-in_err-write_at-clause-spared g c = spared_if_empty g.D.Disk c.args.disk.now c.write_at.new.self (λ keeps2.
    omega (arith, c.in_ok-len.ensures.answer (c.write_at.ensures.kept keeps2), c.if-branch-ne0.false))

pub returns-clause-spared : goal.returns-clause-spared
returns-clause-spared g c = spared_if_empty g.D.Disk c.args.disk.now c.sync.new.self (λ keeps3.
    omega (arith, c.in_ok-len.ensures.answer (c.write_at.ensures.kept (c.sync.ensures.kept keeps3)), c.if-branch-ne0.false))
