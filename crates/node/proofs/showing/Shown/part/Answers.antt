use Rattle.std.proofs.Common.{◌≡◌, subst, List, take, drop, true, sym}
use Rattle.member.specs.declared.sealed.Sealed.{Sealed}
use Rattle.node.specs.Books.{is_numbered}
use Rattle.node.proofs.Numbers.{if_ok_then, numbered_piece}
use Rattle.node.proofs.showing.Shown.part.Goals as goal

pub returns-clause-numbered : goal.returns-clause-numbered
returns-clause-numbered c =
    if_ok_then c.part.result
    (λ v is. subst (λ (l : List Sealed). is_numbered c.args.from l ≡ true) (sym is)
    (subst (λ (o : List Sealed). is_numbered c.args.from (take c.args.max (drop c.args.from o)) ≡ true) (sym c.deref.ensures.value) (numbered_piece c.args.from c.args.max c.self.inside.items.items c.self.invariant)))
    c.part.ensures.items
