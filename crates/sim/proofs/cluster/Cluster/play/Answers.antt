use Rattle.std.proofs.Common.{◌≡◌, ◌<◌, ◌++◌, ◌^◌, List, length, drop, take, refl, sym, subst, arith, take_at}
use Rattle.std.proofs.lemmas.Result.{err_from_is_err_and}
use Rattle.sim.specs.Words.{Post, ClusterFields, ClusterStandsFor, saved_among, IsTurn, IsCluster}
use Rattle.sim.proofs.Playing.{played_next, refused, few_saved}
use Rattle.sim.proofs.cluster.Cluster.play.Goals as goal

-- the posts that were lent
posts_are : (old new : List Post) (n : _) → length new ≡ n → take n (new ++ drop (length new) old) ≡ new
posts_are old new n e = take_at new (drop (length new) old) n e

pub returns-clause-stands : goal.returns-clause-stands
returns-clause-stands c past saved s is =
    let inside = c.self.inside in
    let long : length c.step.new.posts ≡ inside.posts.len = omega (arith, c.step.ensures.ready.count, c.self.invariant.count, inside.posts.ok.0) in
    let at = posts_are inside.posts.items c.step.new.posts inside.posts.len long in
    played_next past (record { size = inside.size; posts = inside.posts.items; last = inside.last }) (subst (λ (x : ClusterFields). ClusterStandsFor past x) (sym c.self.view_is) s)
    _ c.args.event.now c.in_ok-mark.mark saved refl is
    (λ liars s lawful steady cluster. subst (λ (l : List Post). IsTurn inside.size liars s c.args.event.now c.in_ok-mark.mark (saved_among l c.in_ok-mark.last) l) (sym at)
    (c.in_ok-mark.ensures.turn liars s lawful steady (subst (λ (l : List Post). IsCluster inside.size liars s l) (sym c.as_mut_slice.ensures.value) cluster)))

pub returns-in_err-mark-clause-memory : goal.returns-in_err-mark-clause-memory
returns-in_err-mark-clause-memory c past s =
    let inside = c.self.inside in
    let made = err_from_is_err_and c.from_residual.result c.from_residual.ensures.1 in
    rw (made.1, made.2)
    (refused past (record { size = inside.size; posts = inside.posts.items; last = inside.last }) (subst (λ (x : ClusterFields). ClusterStandsFor past x) (sym c.self.view_is) s) c.in_err-mark.field-0.0
    (λ liars s lawful steady cluster. c.in_err-mark.ensures.memory liars s lawful steady (subst (λ (l : List Post). IsCluster inside.size liars s l) (sym c.as_mut_slice.ensures.value) cluster)))

pub returns-clause-room : goal.returns-clause-room
returns-clause-room c =
    let inside = c.self.inside in
    let long : length c.step.new.posts ≡ inside.posts.len = omega (arith, c.step.ensures.ready.count, c.self.invariant.count, inside.posts.ok.0) in
    let at = posts_are inside.posts.items c.step.new.posts inside.posts.len long in
    few_saved _ (subst (λ (l : List Post). length (saved_among l c.in_ok-mark.last) < 2 ^ 63) (sym at) c.in_ok-mark.ensures.room)
