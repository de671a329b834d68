use Rattle.script.proofs.Heads.{Listing}
use Rattle.script.proofs.head.members.Given as goal

-- with what the words that are left list, these are what all list; and there is no other way
abbrev pub invariant-loop-word : goal.invariant-loop-word
invariant-loop-word l = Listing l.words l.word-index l.members.items
