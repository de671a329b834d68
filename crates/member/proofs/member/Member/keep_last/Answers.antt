use Rattle.std.proofs.Common.{rules, ◌≡◌, ◌++◌, Result, Ok, IfOk, List, take, drop, subst}
use Rattle.terms_prelude.specs.Terms.{Record, records_of}
use Rattle.journal.specs.Words.{journal_header, AreWellFormedFor}
use Rattle.questions.specs.declared.answer.Heard.{Heard}
use Rattle.questions.specs.declared.answer.CoreFault.{CoreFault}
use Rattle.questions.specs.Replies.{reply_with}
use Rattle.member.specs.Keeping.{SavesBatch}
use Rattle.member.specs.Readers.{member_disk, member_header, member_gate, member_saved, member_outbox, member_is_stopped}
use Rattle.member.proofs.Asked.{asked_more}
use Rattle.member.specs.Sound.{IsFiled}
use Rattle.member.proofs.Standing.{settled_as}
use Rattle.member.proofs.member.Member.keep_last.Goals as goal

pub returns-in-Ok-save_last : goal.returns-in-Ok-save_last
unfolding member_disk member_header member_gate member_saved member_outbox member_is_stopped
returns-in-Ok-save_last g c =
    let all : List Record = c.args.self.now.records.items in
    let front : List Record = take c.args.before all in
    let batch : List Record = drop c.args.before all in
    let e : SavesBatch g.D.Disk batch (Ok c.in-Ok-save_last.field-0) c.args.self.now.journal c.save_last.new.journal front all c.args.self.now.outbox.items c.save_last.new.outbox.items =
    subst (λ (l : List Record). SavesBatch g.D.Disk (drop c.args.before l) (Ok c.in-Ok-save_last.field-0) c.args.self.now.journal c.save_last.new.journal
    (take c.args.before l) l c.args.self.now.outbox.items c.save_last.new.outbox.items) c.deref.ensures.value c.in-Ok-save_last.ensures in
    let good : AreWellFormedFor (journal_header c.args.self.now.journal) batch = search rules in
    let takes : records_of (reply_with c.in-Ok.heard batch) ≡ batch =
    subst (λ (o : Result Heard CoreFault). IfOk o (λ h. records_of (reply_with h batch) ≡ batch)) c.in-Ok.is c.requires.takes in
    let filed : IsFiled g.D.Disk (record c.args.self.now { journal = c.save_last.new.journal; outbox = c.save_last.new.outbox }) = record {
      sealed = e.sealed;
      asked = asked_more (journal_header c.args.self.now.journal) (journal_header c.save_last.new.journal) front batch all e.header e.records c.requires.asked good;
      running = λ up. e.running;
      settled = λ keeps up. settled_as g.D.Disk (journal_header c.args.self.now.journal) (journal_header c.save_last.new.journal) _ all c.save_last.new.journal e.header e.records (e.settled keeps);
    } in
    search (rules, filed, e, takes)
