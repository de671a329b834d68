use Rattle.sim.proofs.posts.Post.begin.Goals as goal

pub open-requires : goal.open-requires
open-requires c = record { sound = c.requires.ready.sound }
