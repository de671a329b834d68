use Rattle.sim.specs.Presences.{mine}
use Rattle.sim.proofs.Done.{fuse_set}
use Rattle.sim.proofs.posts.Post.fuse.Goals as goal

pub returns-clause-done : goal.returns-clause-done
returns-clause-done c size liars s p lawful below post fits bytes =
    fuse_set size liars s p c.args.self.now post below c.args.calls bytes c.fuse.new.self c.is_some-self.result c.fuse.ensures.side c.is_some-self.ensures
    (λ honest. c.fuse.ensures.at (mine size p) s.world (post.at honest))
