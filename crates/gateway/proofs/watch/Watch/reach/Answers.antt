use Rattle.std.proofs.Common.{◌≡◌, ◌<◌, ◌/◌, List, OnErr, ℕ, arith, rules, subst, sym, true}
use Rattle.gateway.specs.Heads.{IsCommonHead, count_at, next_first}
use Rattle.gateway.specs.Scopes.{window_length}
use Rattle.gateway.specs.Watches.{Watches, watch_first, watch_heads, watch_scope, watch_size}
use Rattle.gateway.proofs.Reaching.{held_after, needed_after}
use Rattle.gateway.proofs.watch.Watch.reach.Goals as goal

pub next_first-first-requires : goal.next_first-first-requires
next_first-first-requires c = omega (arith, c.window_length.ensures.few)

pub returns-clause-words : goal.returns-clause-words
unfolding Watches watch_first watch_scope
returns-clause-words c = λ heard watches.
    let chain : c.args.self.now.scope.chain ≡ true = search rules in
    c.pass.ensures.words chain heard (record { all = watches.all; still = watches.still; each = watches.each })

pub returns-clause-held : goal.returns-clause-held
unfolding watch_first watch_size watch_heads
returns-clause-held c = λ later.
    subst (λ (heads : List ℕ). c.args.self.now.scope.size.t < count_at heads (watch_first c.pass.new.self)) (sym c.pass.ensures.heads)
    (held_after c.pass.result c.args.self.now.scope.size.t c.move_head.new.heads.items _ c.pass.new.self (c.window_length.result / 4) c.common_head-head.result
    c.next_first-first.result c.pass.ensures.moves c.pass.ensures.stays c.next_first-first.ensures (search (rules, c.common_head-head.ensures)) later)

pub returns-clause-needed : goal.returns-clause-needed
unfolding watch_first watch_size watch_heads watch_scope
returns-clause-needed c =
    subst (λ (heads : List ℕ). OnErr c.pass.result ((head : ℕ) → IsCommonHead c.args.self.now.scope.size.t heads head
    → watch_first c.args.self.now < next_first (watch_first c.args.self.now) (window_length c.args.self.now.scope / 4) head)) (sym c.pass.ensures.heads)
    (subst (λ (length : ℕ). OnErr c.pass.result ((head : ℕ) → IsCommonHead c.args.self.now.scope.size.t c.move_head.new.heads.items head
    → watch_first c.args.self.now < next_first (watch_first c.args.self.now) (length / 4) head)) c.window_length.ensures.value
    (needed_after c.pass.result c.args.self.now.scope.size.t c.move_head.new.heads.items (watch_first c.args.self.now) (c.window_length.result / 4)
    c.common_head-head.result c.next_first-first.result c.pass.ensures.needed c.next_first-first.ensures (search (rules, c.common_head-head.ensures))))
