use Rattle.std.proofs.Common.{◌≡◌, ◌≤◌, ◌++◌, ◌-◌, List, string_bytes}
use Rattle.client.specs.Readings.{first_word}
use Rattle.gateway.specs.Answers.{word_items}
use Rattle.gateway.specs.Watches.{Watches, watch_first, words_on}
use Rattle.gateway.specs.declared.watch.Told.{Told}
use Rattle.gateway.proofs.answers.word_items.Given as goal

-- the items so far, and those of the members that are left
abbrev pub invariant-loop-member : goal.invariant-loop-member
invariant-loop-member l =
    (heard : List Told) → Watches l.watch heard → watch_first l.watch ≤ l.question →
    string_bytes l.text ++ word_items (first_word (words_on l.question heard)) l.member (l.n - l.member)
    ≡ word_items (first_word (words_on l.question heard)) 0 l.n
