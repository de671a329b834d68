use Rattle.sim.specs.Presences.{mine}
use Rattle.sim.proofs.Done.{crash_done}
use Rattle.sim.proofs.posts.Post.crash.Goals as goal

pub returns-clause-done : goal.returns-clause-done
returns-clause-done c size liars s p lawful below post fits bytes =
    crash_done size liars s p c.args.self.now post below c.args.pick bytes c.crash.new.self c.in_ok-crash.ensures.side fits
    (c.in_ok-crash.ensures.at (mine size p) s.world (post.at fits))
