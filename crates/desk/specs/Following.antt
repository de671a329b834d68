-- What is written to a client that follows decisions.
use Rattle.std.specs.Prelude.{ℕ, ◌≡◌, ◌+◌, Option, Some, None, List, [], ◌∷◌, ◌++◌, codes, if◌then◌else◌}
use Rattle.std.specs.Fmt.{decimal}
use Rattle.std.specs.List.{flat_map}
use Rattle.numerals.specs.Lines.{line}
use Rattle.node.specs.declared.order.Decision.{Decision}

-- the line of a decision
abbrev pub decision_text : Decision → List ℕ
decision_text d = codes "DECIDED " ++ (decimal d.question ++ (if d.bit then codes " 1" else codes " 0"))

-- a line that is told: a decision's, or an empty one where there was none for a while
abbrev pub told_text : Option Decision → List ℕ
told_text None = []
told_text (Some d) = decision_text d

abbrev pub told_texts : List (Option Decision) → List ℕ
told_texts told = flat_map (λ x. line (told_text x)) told

-- the decisions among these have the numbers from the first one on, up to the second
abbrev pub AreNumbered : (ℕ → Decision → Type 0) → ℕ → List (Option Decision) → ℕ → Type 0
AreNumbered HasNumber from [] to = from ≡ to
AreNumbered HasNumber from (None ∷ told) to = AreNumbered HasNumber from told to
AreNumbered HasNumber from (Some d ∷ told) to = HasNumber from d × AreNumbered HasNumber (from + 1) told to

-- how far a follower is: the number of the decision that it is told next, and the bytes that it is owed before that
pub record FollowerView : Type 0 where
  pub next : ℕ
  pub owed : List ℕ

-- Decisions are told in turn, from that number up to the follower's: what was written behind `old`, and what the follower is
-- owed, are their lines.
pub record Tells (HasNumber : ℕ → Decision → Type 0) (from : ℕ) (old : List ℕ) (follower : FollowerView) (now : List ℕ) : Type 0 where
  pub told : List (Option Decision)
  pub numbered : AreNumbered HasNumber from told follower.next
  pub wrote : now ++ follower.owed ≡ old ++ told_texts told
