use Rattle.std.proofs.Common.{◌≡◌, ◌<◌, ◌++◌, ◌+◌, List, ℕ, sym, subst, rules, drop, length}
use Rattle.gateway.specs.Views.{member_item, member_items}
use Rattle.gateway.proofs.Items.{members_more}
use Rattle.gateway.proofs.views.member_items.Goals as goal

pub loop-member-preserved : goal.loop-member-preserved
loop-member-preserved c =
    let less : c.loop-member.member < length c.args.views.now = search rules in
    let item : c.extend_from_slice.new.self.items ≡ c.loop-member.bytes.items ++ member_item c.loop-member.member c.index-views-member.result =
    search (rules, c.in_ok-extend_from_slice.ensures.items, c.in_ok-item.ensures, c.as_slice.ensures.value) in
    subst (λ (bytes : List ℕ). bytes ++ member_items (c.loop-member.member + 1) (drop (c.loop-member.member + 1) c.args.views.now)
    ≡ member_items 0 c.args.views.now) (sym item)
    (members_more c.args.views.now c.loop-member.member c.index-views-member.result c.loop-member.bytes.items (member_items 0 c.args.views.now)
    less c.index-views-member.is c.loop-member.invariant)
