use Rattle.std.proofs.Common.{◌∙◌, ℕ, Option, List, ap, sym}
use Rattle.std.specs.List.{slice_get}
use Rattle.sim.specs.Words.{Post, last_saved, saved_among, saved_behind}
use Rattle.sim.proofs.Playing.{looked_up}
use Rattle.sim.proofs.cluster.Cluster.saved.Goals as goal

pub returns-in-Some : goal.returns-in-Some
unfolding last_saved
returns-in-Some c =
    let look = c.get.ensures.lookup in
    let posts = c.self.inside.posts.items in
    c.saved_behind.ensures
    ∙ (ap (λ (o : Option Post). saved_behind o c.in-Some.before) (looked_up c.deref.result.now c.from.result c.get.result _ look.3 look.1)
    ∙ (ap (λ (l : List Post). saved_behind (slice_get l c.from.result) c.in-Some.before) c.deref.ensures.value
    ∙ (ap (λ (i : ℕ). saved_behind (slice_get posts i) c.in-Some.before) c.from.ensures
    ∙ (ap (λ (o : Option (ℕ × ℕ)). saved_among posts o) (sym c.in-Some.is)
    ∙ ap last_saved c.self.view_is))))

pub returns-in-None : goal.returns-in-None
unfolding last_saved
returns-in-None c = ap (λ (o : Option (ℕ × ℕ)). saved_among c.self.inside.posts.items o) (sym c.in-None.is) ∙ ap last_saved c.self.view_is
