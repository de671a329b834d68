use Rattle.std.proofs.Common.{◌≡◌, ◌<◌, ◌≤◌, List}
use Rattle.terms_prelude.specs.Terms.{count_below}
use Rattle.gateway.specs.Watches.{Watches, has_word, watch_first, words_on}
use Rattle.gateway.specs.declared.watch.Told.{Told}
use Rattle.gateway.proofs.watch.Watch.teller_count.Given as goal

-- those of the members so far that told a bit
abbrev pub invariant-loop-member : goal.invariant-loop-member
invariant-loop-member l =
    ((heard : List Told) → Watches l.self heard → watch_first l.self ≤ l.question → l.count ≡ count_below l.member (has_word (words_on l.question heard)))
    × (l.question < watch_first l.self → l.count ≡ 0) × (l.count ≤ l.member)
