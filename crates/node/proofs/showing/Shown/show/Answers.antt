use Rattle.std.proofs.Common.{rules, ◌≡◌, ◌++◌, List, drop, length, true, subst, sym}
use Rattle.member.specs.declared.sealed.Sealed.{Sealed}
use Rattle.node.specs.Books.{is_numbered}
use Rattle.node.proofs.Numbers.{numbered_longer}
use Rattle.node.proofs.showing.Shown.show.Goals as goal

pub invariant_of-self-2 : goal.invariant_of-self-2
invariant_of-self-2 c =
    let all : c.extend_from_slice.new.self.items ≡ c.self.inside.items.items ++ drop (length c.self.inside.items.items) c.args.outbox.now = search rules in
    subst (λ (l : List Sealed). is_numbered 0 l ≡ true) (sym all) (numbered_longer c.self.inside.items.items c.args.outbox.now c.self.invariant c.requires.numbered)
