-- Each exit goes one call further than the one before it.
use Rattle.std.proofs.Common.{◌≡◌, ◌+◌, [], ◌∷◌, OnOk, ◌∙◌, ap, subst}
use Rattle.disk.specs.Model.{State, after_write, at_rest, overwritten}
use Rattle.journal.specs.Commit.{bytes_behind, gate_opened}
use Rattle.journal.proofs.Committing.{written, synced, opened}
use Rattle.journal.proofs.Passing.{none_passed, one_passed, last_passed}
use Rattle.journal.proofs.journal.commit.Goals as goal

pub returns-in_err-write_at-clause-any_moment : goal.returns-in_err-write_at-clause-any_moment
returns-in_err-write_at-clause-any_moment g c keeps1 =
    let keeps0 = c.write_at.ensures.kept keeps1 in
    let w = c.write_at.ensures in
    (written g.D.Disk c.args.disk.now c.args.gate c.args.body.now (c.requires.shut keeps0) c.write_at.new.self c.write_at.result
    (λ f left. g.met.D.Disk.only_now c.args.disk.now f keeps0 left) (w.written keeps1, w.torn keeps1, w.time keeps1)).0

pub returns-in_err-sync-clause-any_moment : goal.returns-in_err-sync-clause-any_moment
returns-in_err-sync-clause-any_moment g c keeps2 =
    let keeps1 = c.sync.ensures.kept keeps2 in
    let keeps0 = c.write_at.ensures.kept keeps1 in
    let old = c.args.disk.now in
    let gate = c.args.gate in
    let body = c.args.body.now in
    let shut = c.requires.shut keeps0 in
    let w = c.write_at.ensures in
    let first = written g.D.Disk old gate body shut c.write_at.new.self c.write_at.result
    (λ f left. g.met.D.Disk.only_now old f keeps0 left) (w.written keeps1, w.torn keeps1, w.time keeps1) in
    let s = c.sync.ensures in
    (synced g.D.Disk old gate body shut c.write_at.new.self c.sync.new.self c.sync.result first (s.synced keeps2) (s.failed keeps2)
    (g.met.D.Disk.may_leave_seen c.write_at.new.self keeps1) (s.time keeps2)).0

pub returns-in_err-write_at-2-clause-any_moment : goal.returns-in_err-write_at-2-clause-any_moment
returns-in_err-write_at-2-clause-any_moment g c keeps3 =
    let keeps2 = c.write_at-2.ensures.kept keeps3 in
    let keeps1 = c.sync.ensures.kept keeps2 in
    let keeps0 = c.write_at.ensures.kept keeps1 in
    let old = c.args.disk.now in
    let gate = c.args.gate in
    let body = c.args.body.now in
    let shut = c.requires.shut keeps0 in
    let w = c.write_at.ensures in
    let first = written g.D.Disk old gate body shut c.write_at.new.self c.write_at.result
    (λ f left. g.met.D.Disk.only_now old f keeps0 left) (w.written keeps1, w.torn keeps1, w.time keeps1) in
    let s = c.sync.ensures in
    let second = synced g.D.Disk old gate body shut c.write_at.new.self c.sync.new.self c.sync.result first (s.synced keeps2) (s.failed keeps2)
    (g.met.D.Disk.may_leave_seen c.write_at.new.self keeps1) (s.time keeps2) in
    let is : g.D.Disk.state c.sync.new.self ≡ at_rest (overwritten (g.D.Disk.state old).seen (gate + 1) body) =
    c.in_ok-sync.ensures.synced keeps2 ∙ ap (λ (t : State). at_rest t.seen) (c.in_ok-write_at.ensures.written keeps1) in
    let v = c.write_at-2.ensures in
    (opened g.D.Disk old gate body shut c.sync.new.self c.write_at-2.new.self c.write_at-2.result second is
    (v.written keeps3, v.torn keeps3, v.time keeps3)).0

pub returns-clause-any_moment : goal.returns-clause-any_moment
returns-clause-any_moment g c keeps4 =
    let keeps3 = c.sync-2.ensures.kept keeps4 in
    let keeps2 = c.write_at-2.ensures.kept keeps3 in
    let keeps1 = c.sync.ensures.kept keeps2 in
    let keeps0 = c.write_at.ensures.kept keeps1 in
    let old = c.args.disk.now in
    let gate = c.args.gate in
    let body = c.args.body.now in
    let shut = c.requires.shut keeps0 in
    let w = c.write_at.ensures in
    let first = written g.D.Disk old gate body shut c.write_at.new.self c.write_at.result
    (λ f left. g.met.D.Disk.only_now old f keeps0 left) (w.written keeps1, w.torn keeps1, w.time keeps1) in
    let s = c.sync.ensures in
    let second = synced g.D.Disk old gate body shut c.write_at.new.self c.sync.new.self c.sync.result first (s.synced keeps2) (s.failed keeps2)
    (g.met.D.Disk.may_leave_seen c.write_at.new.self keeps1) (s.time keeps2) in
    let is : g.D.Disk.state c.sync.new.self ≡ at_rest (overwritten (g.D.Disk.state old).seen (gate + 1) body) =
    c.in_ok-sync.ensures.synced keeps2 ∙ ap (λ (t : State). at_rest t.seen) (c.in_ok-write_at.ensures.written keeps1) in
    let v = c.write_at-2.ensures in
    let third = opened g.D.Disk old gate body shut c.sync.new.self c.write_at-2.new.self c.write_at-2.result second is
    (v.written keeps3, v.torn keeps3, v.time keeps3) in
    let u = c.sync-2.ensures in
    (synced g.D.Disk old gate body shut c.write_at-2.new.self c.sync-2.new.self c.sync-2.result third (u.synced keeps4) (u.failed keeps4)
    (g.met.D.Disk.may_leave_seen c.write_at-2.new.self keeps3) (u.time keeps4)).0

-- each call that passed brings the disk into the next state
pub returns-clause-calls : goal.returns-clause-calls
returns-clause-calls g c keeps4 =
    let keeps3 = c.sync-2.ensures.kept keeps4 in
    let keeps2 = c.write_at-2.ensures.kept keeps3 in
    let keeps1 = c.sync.ensures.kept keeps2 in
    let keeps0 = c.write_at.ensures.kept keeps1 in
    let old = c.args.disk.now in
    let s = g.D.Disk.state old in
    let gate = c.args.gate in
    let body = c.args.body.now in
    let written : g.D.Disk.state c.write_at.new.self ≡ bytes_behind s gate body = c.in_ok-write_at.ensures.written keeps1 in
    let synced : g.D.Disk.state c.sync.new.self ≡ at_rest (bytes_behind s gate body).seen =
    c.in_ok-sync.ensures.synced keeps2 ∙ ap (λ (t : State). at_rest t.seen) written in
    let opened : g.D.Disk.state c.write_at-2.new.self ≡ gate_opened s gate body =
    c.in_ok-write_at-2.ensures.written keeps3 ∙ ap (λ (t : State). after_write t gate (1 ∷ [])) synced in
    let counts = g.met.D.Disk.counts_now in
    let only = g.met.D.Disk.only_now in
    let first = one_passed g.D.Disk counts only old old c.write_at.new.self [] _ (none_passed g.D.Disk counts only old keeps0) (c.in_ok-write_at.ensures.time keeps1) keeps1 _ written in
    let second = one_passed g.D.Disk counts only old c.write_at.new.self c.sync.new.self _ _ first (c.in_ok-sync.ensures.time keeps2) keeps2 _ synced in
    let third = one_passed g.D.Disk counts only old c.sync.new.self c.write_at-2.new.self _ _ second (c.in_ok-write_at-2.ensures.time keeps3) keeps3 _ opened in
    last_passed g.D.Disk counts only old c.write_at-2.new.self c.sync-2.new.self _ c.sync-2.result third (c.sync-2.ensures.time keeps4) keeps4 _
    (subst (λ (t : State). OnOk c.sync-2.result (g.D.Disk.state c.sync-2.new.self ≡ at_rest t.seen)) opened (c.sync-2.ensures.synced keeps4))
