use Rattle.std.proofs.Common.{◌≡◌, ◌∙◌, sym, ap, subst, List, [], ◌++◌}
use Rattle.terms_prelude.specs.Terms.{Echo, Ready, Record, Past, AllFit, MaySay, IsLeast, after_records, AreDue}
use Rattle.questions.specs.Words.{Has, IsQuietElsewhere, Decides, if_there}
use Rattle.questions.specs.Replies.{added}
use Rattle.questions.proofs.Adding.{two_added, four_added}
use Rattle.questions.proofs.Rows.{rows-four}
use Rattle.questions.proofs.Saying.{all_due, all_waiting, not_some, said_alone}
use Rattle.questions.proofs.instance.Instance.say_due.Goals as goal
use Rattle.questions.proofs.instance.Instance.say_due.Goals.{After-begin, After-add-then-is_none as Then}

module _ (c : After-begin) (past : Past) (has : Has c.args.self.now past) where
  -- what is said, as it was answered
  abbrev echos : List Record
  echos = if_there c.in_ok-echo.echo

  abbrev readys : List Record
  readys = if_there c.in_ok-ready.ready

  abbrev decided : List Record
  decided = if_there c.decide-decided.result

  abbrev begun : List Record
  begun = added c.add-4.new.batch.items c.begin.new.batch.items

  abbrev records : List Record
  records = added c.args.batch.now.items c.begin.new.batch.items

  -- once the Echo and the Ready were said
  abbrev readied : Past
  readied = after_records (after_records past echos) readys

  has_readied : Has c.say-2.new.self readied
  has_readied = c.in_ok-ready.ensures.has (after_records past echos) (c.in_ok-echo.ensures.has past has)

  has_decided : Has c.decide-decided.new.self (after_records readied decided)
  has_decided = c.decide-decided.ensures.has readied has_readied

  -- the records, in their order
  listed : records ≡ echos ++ readys ++ decided ++ begun
  listed =
      four_added c.args.batch.now.items c.reserve-2.new.self.items c.add-2.new.batch.items c.add-3.new.batch.items c.add-4.new.batch.items c.begin.new.batch.items
      echos readys decided begun c.in_ok-reserve-2.ensures.items c.add-2.ensures.appends c.add-3.ensures.appends c.add-4.ensures.appends c.begin.ensures.appends

  has_after : Has c.begin.new.self (after_records past records)
  has_after =
      subst (λ (x : Past). Has c.begin.new.self x)
      (sym (ap (λ (xs : List Record). after_records past xs) listed ∙ rows-four past echos readys decided begun))
      (c.begin.ensures.has (after_records readied decided) has_decided)

  module _ (fit : AllFit past) (elsewhere : IsQuietElsewhere past c.args.place) (echo_is : IsLeast (MaySay past Echo c.args.place) c.args.brought.due.echo)
      (ready_is : IsLeast (MaySay past Ready c.args.place) c.args.brought.due.ready) where
    due_after : AreDue past c.args.place c.args.toss.0 records
    due_after =
        let decides : Decides readied decided = c.decide-decided.ensures.decides readied has_readied in
        all_due past c.args.place c.args.toss.0 fit c.args.brought.due.echo c.args.brought.due.ready c.in_ok-echo.echo c.in_ok-ready.ready
        c.in_ok-echo.ensures.said c.in_ok-ready.ensures.said elsewhere echo_is ready_is decided begun decides
        (c.begin.ensures.begins (after_records readied decided) has_decided) records listed

pub returns-clause-due : goal.returns-clause-due
returns-clause-due c = λ past has fit elsewhere echo_is ready_is waiting. due_after c past has fit elsewhere echo_is ready_is

pub returns-clause-has : goal.returns-clause-has
returns-clause-has c = λ past has. has_after c past has

-- where nothing is newly accepted
waiting_said : (c : Then) → added c.args.batch.now.items c.add-then-is_none.new.batch.items ≡ if_there c.in_ok-echo.echo ++ if_there c.in_ok-ready.ready ++ [] ++ []
waiting_said c =
    two_added c.args.batch.now.items c.reserve.new.self.items c.add.new.batch.items c.add-then-is_none.new.batch.items
    (if_there c.in_ok-echo.echo) (if_there c.in_ok-ready.ready) c.in_ok-reserve.ensures.items c.add.ensures.appends c.add-then-is_none.ensures.appends

pub returns-then-is_none-clause-due : goal.returns-then-is_none-clause-due
returns-then-is_none-clause-due c = λ past has fit elsewhere echo_is ready_is waiting.
    all_waiting past c.args.place c.args.toss.0 fit c.args.brought.due.echo c.args.brought.due.ready c.in_ok-echo.echo c.in_ok-ready.ready
    c.in_ok-echo.ensures.said c.in_ok-ready.ensures.said elsewhere echo_is ready_is
    (waiting (not_some c.args.brought.accepted c.if-is_none.ensures)) (added c.args.batch.now.items c.add-then-is_none.new.batch.items) (waiting_said c)

pub returns-then-is_none-clause-has : goal.returns-then-is_none-clause-has
returns-then-is_none-clause-has c = λ past has.
    subst (λ (x : Past). Has c.say-2.new.self x)
    (said_alone past (if_there c.in_ok-echo.echo) (if_there c.in_ok-ready.ready) (added c.args.batch.now.items c.add-then-is_none.new.batch.items) (waiting_said c))
    (c.in_ok-ready.ensures.has (after_records past (if_there c.in_ok-echo.echo)) (c.in_ok-echo.ensures.has past has))
