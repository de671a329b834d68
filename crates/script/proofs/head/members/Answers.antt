use Rattle.std.proofs.Common.{sym, subst, ℕ, List, arith, ◌+◌}
use Rattle.script.proofs.Heads.{Listing, one_more, all_listed}
use Rattle.script.proofs.head.members.Goals as goal

pub loop-word-preserved : goal.loop-word-preserved
loop-word-preserved c =
    subst (λ (ms : List ℕ). Listing c.args.words.now (c.loop-word.word-index + 1) ms) (sym c.in_ok-push.ensures.items)
    (one_more c.args.words.now c.loop-word.word-index _ c.loop-word.members.items c.in-Some.member c.loop-word-test.true
    c.in-Some.ensures.some (λ k is. c.in-Some.ensures.exact k is) c.loop-word.invariant)

pub returns-clause-some : goal.returns-clause-some
returns-clause-some c = all_listed c.args.words.now c.loop-word.word-index c.loop-word.members.items (omega arith) c.loop-word.invariant
