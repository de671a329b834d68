-- Parts of a list.
use Rattle.std.specs.Prelude.{ℕ, ◌≡◌, List, ◌++◌}
use Rattle.std.specs.List.{All}
use Rattle.terms_prelude.specs.Terms.{Statement}
use Rattle.rounds.specs.declared.tosses.Toss.{Toss}
use Rattle.node.specs.declared.line.Part.{Part}

-- it stands in the whole, in one piece, with something before it and behind it, perhaps nothing
pub record IsPartOf {X : Type 0} (part whole : List X) : Type 0 where
  pub before : List X
  pub behind : List X
  pub is : before ++ (part ++ behind) ≡ whole

-- each of them has statements that stand in the whole in one piece
abbrev pub AreParts : List Part → List (ℕ × Statement × Toss) → Type 0
AreParts parts whole = All (λ part. IsPartOf part.events.items whole) parts
