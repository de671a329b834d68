-- Those that follow decisions.
use Rattle.std.specs.Prelude.{ℕ, List, ◌++◌}
use Rattle.running.specs.declared.followers.Took.{Took}

-- the number of followers, and the most that there may be
pub record CrowdView : Type 0 where
  pub count : ℕ
  pub most : ℕ

-- what a socket has taken behind a write
abbrev pub taken_after : List ℕ → Took → List ℕ
taken_after taken took = taken ++ took.0.now
