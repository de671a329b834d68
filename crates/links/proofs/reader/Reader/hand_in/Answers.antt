use Rattle.std.proofs.Common.{rules, ◌≡◌, List, [], refl, subst}
use Rattle.terms_prelude.specs.Terms.{Statement}
use Rattle.rounds.specs.declared.tosses.Toss.{Toss}
use Rattle.links.specs.Handing.{in_order}
use Rattle.links.specs.Tossed.{HandsPart}
use Rattle.links.specs.declared.ends.LinkEnd.TheVariants as end
use Rattle.links.proofs.Tossing.{none_tossed, tossed_all, tossed_part, not_whole}
use Rattle.links.proofs.reader.Reader.hand_in.Goals as goal

-- no memory for the statements with their tosses
pub returns-in_default-clause-tossed_some : goal.returns-in_default-clause-tossed_some
returns-in_default-clause-tossed_some g c =
    none_tossed g.T.Tosser.may_toss c.args.tosser.now c.gather.new.tosser c.args.seat.now end.Memory (in_order c.args.self.now.version c.args.messages.now)
    c.recall.ensures c.gather.ensures.spent (λ yes. cc)

-- a group wasn't taken
pub returns-in-Err-clause-tossed_some : goal.returns-in-Err-clause-tossed_some
returns-in-Err-clause-tossed_some g c =
    let front : (rest : List (Statement × Toss)) × HandsPart c.args.seat.now c.hand_in_groups.new.seat c.in-Ok.events.items rest =
    subst (λ (l : List (Statement × Toss)). (rest : List (Statement × Toss)) × HandsPart c.args.seat.now c.hand_in_groups.new.seat l rest) c.deref.ensures.value c.hand_in_groups.ensures.front in
    tossed_part g.T.Tosser.may_toss c.args.tosser.now c.gather.new.tosser c.args.seat.now c.hand_in_groups.new.seat c.in-Err.why c.in-Ok.events.items front.0 (in_order c.args.self.now.version c.args.messages.now)
    front.1 c.in-Ok.ensures.said c.in-Ok.ensures.tosses (λ yes. absurd (not_whole c.in-Err.why c.in-Err.ensures.only yes))

-- a message was out of place
pub returns-then-not-all_in_place-clause-tossed_some : goal.returns-then-not-all_in_place-clause-tossed_some
returns-then-not-all_in_place-clause-tossed_some g c =
    tossed_part g.T.Tosser.may_toss c.args.tosser.now c.gather.new.tosser c.args.seat.now c.hand_in_groups.new.seat end.OutOfOrder c.in-Ok.events.items [] (in_order c.args.self.now.version c.args.messages.now)
    (subst (λ (l : List (Statement × Toss)). HandsPart c.args.seat.now c.hand_in_groups.new.seat l []) c.deref.ensures.value c.in-Ok-hand_in_groups.ensures.whole)
    c.in-Ok.ensures.said c.in-Ok.ensures.tosses (λ yes. refl)

pub returns-clause-tossed : goal.returns-clause-tossed
returns-clause-tossed g c =
    tossed_all g.T.Tosser.may_toss c.args.tosser.now c.gather.new.tosser c.args.seat.now c.hand_in_groups.new.seat c.in-Ok.events.items (in_order c.args.self.now.version c.args.messages.now)
    (subst (λ (l : List (Statement × Toss)). HandsPart c.args.seat.now c.hand_in_groups.new.seat l []) c.deref.ensures.value c.in-Ok-hand_in_groups.ensures.whole)
    c.in-Ok.ensures.said c.in-Ok.ensures.tosses
