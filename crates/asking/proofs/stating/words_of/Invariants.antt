use Rattle.asking.specs.Statings.{AreTold, reply_texts}
use Rattle.asking.proofs.stating.words_of.Given as goal

-- the words of the replies so far
abbrev pub invariant-loop-reply : goal.invariant-loop-reply
invariant-loop-reply l = AreTold (reply_texts l.yielded) l.words.items
