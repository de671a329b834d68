use Rattle.sim.proofs.Done.{mapped, proposed}
use Rattle.sim.proofs.posts.Post.propose.Goals as goal

pub returns-clause-done : goal.returns-clause-done
returns-clause-done c size liars s p lawful below post fits bytes =
    mapped _ _ c.propose.result
    (c.propose.ensures.moved size liars p s.world (record { member = below; honest = fits.0 }) fits.1 (post.at fits.0))
    (λ mark move. proposed size liars s p c.args.self.now post below c.args.question c.args.bit c.args.toss bytes mark c.propose.new.self fits.0 c.propose.ensures.side move)

pub returns-clause-memory : goal.returns-clause-memory
returns-clause-memory c size liars s p lawful below post fits may =
    c.propose.ensures.memory size liars p s.world (record { member = below; honest = fits.0 }) fits.1 (post.at fits.0) may
