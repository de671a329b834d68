use Rattle.std.proofs.Common.{◌≡◌, ℕ, List, drop}
use Rattle.std.specs.List.{AllByRecursion}
use Rattle.asking.specs.Hearsay.{IsFirstProof, SentNoProof}
use Rattle.asking.proofs.hearsay.print_first.Given as goal

-- the first proof of those that are left is that of all, and nothing is printed yet
abbrev pub invariant-loop-one : goal.invariant-loop-one
invariant-loop-one g l =
    ((reply : List ℕ) → IsFirstProof l.size l.question (drop l.one-index l.news) reply → IsFirstProof l.size l.question l.news reply)
    × (AllByRecursion (SentNoProof l.size l.question) (drop l.one-index l.news) → AllByRecursion (SentNoProof l.size l.question) l.news)
    × (g.W.Write.contents l.output ≡ g.W.Write.contents l.initial.output)
