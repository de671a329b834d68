use Rattle.std.proofs.Common.{take, rules, refl, ◌≡◌, ℕ, List, sym, ap, ◌∙◌, subst, inl, inr, length, Ok, false}
use Rattle.terms_prelude.specs.Terms.{Header, Record, records_of_all, Statement}
use Rattle.rounds.specs.declared.tosses.Toss.{Toss}
use Rattle.member.specs.declared.member.Member.{Member}
use Rattle.member.specs.Words.{bad_number, hearings, replies_of, IsFullOfAll, MemberIsAt, member_header, member_is_stopped, member_saved}
use Rattle.questions.specs.Words.{link_part}
use Rattle.node.specs.Words.{Group, IsTallied, lengthened_all, AppliesAll, BookView, firsts_of, said_by, with_group}
use Rattle.node.proofs.Grouping.{WentAll, all_kept, all_applies, all_lives_by, hearings_length, replies_are}
use Rattle.node.proofs.Linking.{tied_all}
use Rattle.node.proofs.Living.{all_cut_by, disk_by, saved_by, stays_by, spares_by, all_full_by, stopped_stays, stopped_spares}
use Rattle.node.proofs.Replaying.{decided_more, front_stays, members_are, shown}
use Rattle.node.proofs.Refusing.{bad_faults, bad_lives, bad_refuses, bad_spares}
use Rattle.node.proofs.Tallying.{tallied_behind}
use Rattle.node.proofs.book.Book.hear_all.Goals as goal

pub returns-then-not-make_ready-clause-life : goal.returns-then-not-make_ready-clause-life
returns-then-not-make_ready-clause-life g c = λ header liars w correct at comes.
    inr (refl, c.stop.ensures.life header liars w correct (subst (λ (n : Member g.row.D.Denot). MemberIsAt g.D.Disk header w n) (sym (members_are c.self.view_is)) at) (sym c.is_stopped.ensures ∙ c.if-is_stopped.false))

pub publish_all-requires-clause-decided : goal.publish_all-requires-clause-decided
publish_all-requires-clause-decided g c =
    decided_more (member_saved c.self.inside.member) (member_saved c.hear_all.new.self) (records_of_all (replies_of c.in-Ok.answers.items)) c.self.inside.publisher.known c.in-Ok.ensures.saved.grows c.self.invariant.0.decided

pub invariant_of-self-in-Ok : goal.invariant_of-self-in-Ok
invariant_of-self-in-Ok g c =
    let es : List (ℕ × Statement × ℕ) = hearings c.as_slice-events.result.now in
    let went : WentAll c.self.inside.member es (replies_of c.in-Ok.answers.items) c.hear_all.new.self =
    record { up = sym c.is_stopped.ensures ∙ c.if-is_stopped.false; answers = c.in-Ok.ensures.answers.replies; stands = c.in-Ok.ensures.answers.stands_for; saved = c.in-Ok.ensures.saved.grows; header = c.in-Ok.ensures.stays.header; allowed = c.in-Ok.ensures.ok } in
    let longer : c.add_all_taken.new.history.entries ≡ lengthened_all c.self.inside.history.entries es (replies_of c.in-Ok.answers.items) =
    c.add_all_taken.ensures
    ∙ (λ i. lengthened_all (c.make_ready.ensures.entries i) es (replies_of (c.deref.ensures.value i))) in
    let noted : c.make_ready.new.account ≡ with_group c.self.inside.account (hearings c.args.group.now.items) = search rules in
    let account : c.make_ready.new.account ≡ with_group c.self.inside.account es = noted ∙ ap (λ (l : List (ℕ × Statement × Toss)). with_group c.self.inside.account (hearings l)) (sym c.as_slice-events.ensures.value) in
    let are = replies_are c.self.inside.member c.hear_all.new.self es (replies_of c.in-Ok.answers.items) _ c.self.inside.history.entries went c.self.invariant.0.replayed in
    let tied = λ (p : ℕ). ap (link_part p) longer
    ∙ tied_all _ _ _ c.self.inside.history.entries c.self.inside.account es (replies_of c.in-Ok.answers.items) are (c.self.invariant.1 went.up) p
    ∙ ap (λ (l : List Group). firsts_of p (said_by p l)) (sym account) in (
      all_kept g.D.Disk g.J.Naming.names.cells g.J.Naming.header c.self.inside.publisher.cells c.publish_all.new.publisher.cells c.self.inside.member c.hear_all.new.self es (replies_of c.in-Ok.answers.items) c.self.inside.opened
          c.self.inside.history.entries c.add_all_taken.new.history.entries c.self.inside.publisher.known c.publish_all.new.publisher.known c.self.inside.tally c.add_behind.new.self
          went c.in-Ok.ensures.sound longer c.publish_all.ensures.cells c.publish_all.ensures.decided
          (tallied_behind g.J.Naming.header.size.questions (member_saved c.self.inside.member) (member_saved c.hear_all.new.self) (records_of_all (replies_of c.in-Ok.answers.items)) (length c.records-before.result.now) c.self.inside.tally c.add_behind.new.self
          c.in-Ok.ensures.saved.grows (search rules) c.self.invariant.0.tallied
          (subst (λ (l : List Record). IsTallied g.J.Naming.header.size.questions (take (length c.records-before.result.now) l) c.self.inside.tally → IsTallied g.J.Naming.header.size.questions l c.add_behind.new.self) (search rules)
          (c.add_behind.ensures g.J.Naming.header.size.questions)))
          c.self.invariant.0,
      λ up. tied,
      front_stays c.self.inside.opened (member_saved c.self.inside.member) (member_saved c.hear_all.new.self) (records_of_all (replies_of c.in-Ok.answers.items)) c.self.invariant.0.within c.in-Ok.ensures.saved.grows ∙ c.self.invariant.2,
    )

pub returns-in-Ok-clause-answer : goal.returns-in-Ok-clause-answer
returns-in-Ok-clause-answer g c =
    let es : List (ℕ × Statement × ℕ) = hearings c.as_slice-events.result.now in
    let went : WentAll c.self.inside.member es (replies_of c.in-Ok.answers.items) c.hear_all.new.self =
    record { up = sym c.is_stopped.ensures ∙ c.if-is_stopped.false; answers = c.in-Ok.ensures.answers.replies; stands = c.in-Ok.ensures.answers.stands_for; saved = c.in-Ok.ensures.saved.grows; header = c.in-Ok.ensures.stays.header; allowed = c.in-Ok.ensures.ok } in
    let longer : c.add_all_taken.new.history.entries ≡ lengthened_all c.self.inside.history.entries es (replies_of c.in-Ok.answers.items) =
    c.add_all_taken.ensures
    ∙ (λ i. lengthened_all (c.make_ready.ensures.entries i) es (replies_of (c.deref.ensures.value i))) in
    let noted : c.make_ready.new.account ≡ with_group c.self.inside.account (hearings c.args.group.now.items) = search rules in
    let account : c.make_ready.new.account ≡ with_group c.self.inside.account es = noted ∙ ap (λ (l : List (ℕ × Statement × Toss)). with_group c.self.inside.account (hearings l)) (sym c.as_slice-events.ensures.value) in
    let applies = all_applies c.self.inside.member c.hear_all.new.self es c.in-Ok.answers.items c.self.inside.opened
    c.self.inside.history.entries c.add_all_taken.new.history.entries c.self.inside.publisher.known c.publish_all.new.publisher.known c.self.inside.account c.make_ready.new.account
    went account c.in-Ok.ensures.saved.goes_on longer c.self.invariant.0.within c.self.invariant.0.replayed c.publish_all.ensures.more in
    subst (λ (l : List (ℕ × Statement × Toss)). AppliesAll c.args.self.now (hearings l) c.in-Ok.answers.items (shown c.hear_all.new.self c.self.inside.opened c.add_all_taken.new.history.entries c.publish_all.new.publisher.known c.make_ready.new.account)) c.as_slice-events.ensures.value
    (subst (λ (v : BookView g.row.D.Denot). AppliesAll v es c.in-Ok.answers.items (shown c.hear_all.new.self c.self.inside.opened c.add_all_taken.new.history.entries c.publish_all.new.publisher.known c.make_ready.new.account)) c.self.view_is applies)

pub returns-in-Ok-clause-length : goal.returns-in-Ok-clause-length
returns-in-Ok-clause-length g c = c.in-Ok.ensures.answers.count ∙ hearings_length c.as_slice-events.result.now ∙ ap length c.as_slice-events.ensures.value

pub returns-in-Ok-clause-life : goal.returns-in-Ok-clause-life
returns-in-Ok-clause-life g c =
    all_lives_by g.D.Disk c.self.inside.member c.args.self.now.member c.hear_all.new.self (hearings c.as_slice-events.result.now) (hearings c.args.group.now.items) (Ok c.in-Ok.answers) (members_are c.self.view_is)
    (ap hearings c.as_slice-events.ensures.value) c.in-Ok.ensures.event.life

pub returns-in-Ok-clause-saved : goal.returns-in-Ok-clause-saved
returns-in-Ok-clause-saved g c = saved_by g.D.Disk c.self.inside.member c.args.self.now.member c.hear_all.new.self (records_of_all (replies_of c.in-Ok.answers.items)) (members_are c.self.view_is) c.in-Ok.ensures.saved

pub returns-in-Ok-clause-stays : goal.returns-in-Ok-clause-stays
returns-in-Ok-clause-stays g c = stays_by g.D.Disk c.self.inside.member c.args.self.now.member c.hear_all.new.self (members_are c.self.view_is) c.in-Ok.ensures.stays

pub returns-in-Err-clause-stays : goal.returns-in-Err-clause-stays
returns-in-Err-clause-stays g c = stays_by g.D.Disk c.self.inside.member c.args.self.now.member c.hear_all.new.self (members_are c.self.view_is) c.in-Err.ensures.stays

pub returns-in-Err-clause-disk : goal.returns-in-Err-clause-disk
returns-in-Err-clause-disk g c =
    spares_by g.D.Disk c.self.inside.member c.args.self.now.member c.hear_all.new.self _ (IsFullOfAll c.self.inside.member (hearings c.as_slice-events.result.now)) (IsFullOfAll c.args.self.now.member (hearings c.args.group.now.items)) c.in-Err.fault (members_are c.self.view_is)
    (λ full. all_full_by c.self.inside.member c.args.self.now.member (hearings c.as_slice-events.result.now) (hearings c.args.group.now.items) (members_are c.self.view_is) (ap hearings c.as_slice-events.ensures.value) full) c.in-Err.ensures.fault

pub returns-then-not-make_ready-clause-stays : goal.returns-then-not-make_ready-clause-stays
returns-then-not-make_ready-clause-stays g c = stopped_stays g.D.Disk c.self.inside.member c.args.self.now.member c.stop.new.self (members_are c.self.view_is) c.stop.ensures.disk c.stop.ensures.header

pub returns-then-not-make_ready-clause-disk : goal.returns-then-not-make_ready-clause-disk
returns-then-not-make_ready-clause-disk g c = stopped_spares g.D.Disk _ c.self.inside.member c.args.self.now.member c.stop.new.self (members_are c.self.view_is) c.stop.ensures.disk

pub returns-then-not-make_ready-clause-cut : goal.returns-then-not-make_ready-clause-cut
returns-then-not-make_ready-clause-cut g c = λ header liars w correct at comes. inl (disk_by c.self.inside.member c.args.self.now.member c.stop.new.self (members_are c.self.view_is) c.stop.ensures.disk)

pub returns-in-Ok-clause-cut : goal.returns-in-Ok-clause-cut
returns-in-Ok-clause-cut g c =
    all_cut_by g.D.Disk c.self.inside.member c.args.self.now.member c.hear_all.new.self (hearings c.as_slice-events.result.now) (hearings c.args.group.now.items) (members_are c.self.view_is)
    (ap hearings c.as_slice-events.ensures.value) c.in-Ok.ensures.event.cut

pub returns-in-Err-clause-cut : goal.returns-in-Err-clause-cut
returns-in-Err-clause-cut g c =
    all_cut_by g.D.Disk c.self.inside.member c.args.self.now.member c.hear_all.new.self (hearings c.as_slice-events.result.now) (hearings c.args.group.now.items) (members_are c.self.view_is)
    (ap hearings c.as_slice-events.ensures.value) c.in-Err.ensures.event.cut

pub returns-in-Some-clause-life : goal.returns-in-Some-clause-life
returns-in-Some-clause-life g c = λ header liars w correct at comes.
    inl (bad_lives g.D.Disk header liars w (hearings c.args.group.now.items) c.in-Some.fault c.args.self.now.member
    (bad_faults c.size.result (hearings c.as_slice-events.result.now) c.in-Some.fault (sym c.bad_number.ensures.first ∙ c.in-Some.is)))

pub returns-in-Some-clause-fault : goal.returns-in-Some-clause-fault
returns-in-Some-clause-fault g c =
    let up : member_is_stopped c.args.self.now.member ≡ false = ap (λ (v : BookView g.row.D.Denot). member_is_stopped v.member) (sym c.self.view_is) ∙ sym c.is_stopped.ensures ∙ c.if-is_stopped.false in
    let size : (member_header c.args.self.now.member).size ≡ c.size.result =
    ap (λ (v : BookView g.row.D.Denot). (member_header v.member).size) (sym c.self.view_is) ∙ ap (λ (h : Header). h.size) (sym c.header.ensures) ∙ sym c.size.ensures in
    bad_refuses c.args.self.now (hearings c.args.group.now.items) c.in-Some.fault up
    ((λ i. bad_number (size i) (hearings (sym c.as_slice-events.ensures.value i))) ∙ sym c.bad_number.ensures.first ∙ c.in-Some.is)

pub returns-in-Some-clause-disk : goal.returns-in-Some-clause-disk
returns-in-Some-clause-disk g c =
    bad_spares g.D.Disk _ c.in-Some.fault c.args.self.now.member
    (bad_faults c.size.result (hearings c.as_slice-events.result.now) c.in-Some.fault (sym c.bad_number.ensures.first ∙ c.in-Some.is))
