use Rattle.std.proofs.Common.{ℕ, List, ◌++◌, take}
use Rattle.terms_prelude.specs.Terms.{Record}
use Rattle.node.specs.Words.{IsTallied}
use Rattle.node.proofs.tally.Tally.add_behind.Given as goal

abbrev pub invariant-loop-one : goal.invariant-loop-one
invariant-loop-one l =
    (questions : ℕ) (before : List Record) → IsTallied questions before l.initial.self → IsTallied questions (before ++ take l.one-index l.one-items) l.self
