use Rattle.std.proofs.Common.{◌≡◌, ◌<◌, List, length, get_or, drop, sym, ap, subst, arith, rules, Err, IsErrOf, take_at}
use Rattle.sim.specs.Words.{Post, opening, IsCluster, OpensPost, among, fused_in}
use Rattle.sim.specs.declared.faults.SimFault.TheVariants as faults
use Rattle.sim.proofs.Opening.{opens_post, fuse_there}
use Rattle.sim.proofs.cluster.opened.Goals as goal

pub returns-clause-cluster : goal.returns-clause-cluster
returns-clause-cluster c =
    let slice : c.as_mut_slice.result.now ≡ c.in_ok-posts.posts.items = c.as_mut_slice.ensures.value in
    let same = ap (λ (l : List Post). length l) slice in
    let cluster : IsCluster c.args.size (among c.args.liars.now) (opening (fused_in c.args.disks.items)) c.begin.new.posts = λ p d l.
    let within : p < length c.in_ok-posts.posts.items = omega (arith, c.in_ok-posts.ensures.count, c.requires.count, l) in
    let opens = subst (λ (x : List Post). OpensPost (get_or x p d) (get_or c.begin.new.posts p d)) slice (c.in_ok-begin.ensures.opened p d (omega (arith, same, within))) in
    opens_post c.args.size (among c.args.liars.now) (fused_in c.args.disks.items) p _ _ (c.in_ok-posts.ensures.each p d within).1 opens in
    let len : length c.begin.new.posts ≡ c.in_ok-posts.posts.len = omega (arith, c.begin.ensures.count, c.as_mut_slice.ensures.len) in
    subst (λ (l : List Post). IsCluster c.args.size (among c.args.liars.now) (opening (fused_in c.args.disks.items)) l)
    (sym (take_at c.begin.new.posts (drop (length c.begin.new.posts) c.in_ok-posts.posts.items) c.in_ok-posts.posts.len len)) cluster

pub returns-in_err-begin-clause-device : goal.returns-in_err-begin-clause-device
returns-in_err-begin-clause-device c h =
    let device : IsErrOf {T = Unit {0}} (Err c.in_err-begin.field-0.0) faults.Device = search (rules, h) in
    fuse_there c.args.size c.args.liars.now c.args.disks.items c.as_mut_slice.result.now c.in_ok-posts.posts.items c.as_mut_slice.ensures.value c.in_ok-posts.ensures.count
    c.in_ok-posts.ensures.each (c.in_err-begin.ensures.device device)
