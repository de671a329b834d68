use Rattle.std.proofs.Common.{◌≡◌, ◌++◌, drop, List}
use Rattle.terms_prelude.specs.Terms.{Statement}
use Rattle.questions.specs.Replay.{link_part}
use Rattle.node.specs.Words.{same_statements}
use Rattle.node.proofs.settle.behind.Given as goal

abbrev pub invariant-loop-noted : goal.invariant-loop-noted
invariant-loop-noted l =
    (others : List Statement) → same_statements (link_part l.peer l.block ++ others) l.firsts ≡ same_statements (link_part l.peer (drop l.noted-index l.block) ++ others) l.rest
