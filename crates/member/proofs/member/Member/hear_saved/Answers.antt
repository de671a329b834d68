use Rattle.std.proofs.Common.{rules}
use Rattle.terms_prelude.specs.Terms.{Reply, Hearing, records_of}
use Rattle.questions.specs.declared.answer.Heard.{Heard}
use Rattle.member.specs.Words.{Kept, HasSaved, reply_saved, member_header, member_is_stopped}
use Rattle.member.proofs.Calls.{Call, well_formed, sounds}
use Rattle.member.proofs.Formed.{comes_formed}
use Rattle.member.proofs.Outcomes.{has_saved, stays_on, one_event}
use Rattle.member.proofs.Saved.{HeardInto, IsNamed, heard_in, formed_behind, kept_into}
use Rattle.member.proofs.Saved.{same_reply, reply_as, event_as}
use Rattle.member.proofs.member.Member.hear_saved.Given.{Over}
use Rattle.member.proofs.member.Member.hear_saved.Goals as goal

module _ (g : Over) (c : goal.After-keep_last-arg-1 g) where
  -- the reply of an outcome by the list before and after the core answered
  abbrev reply_in : Heard → Reply
  reply_in = heard_in c.args.self.now.records.items c.hear_into-heard.new.batch.items

  -- the core answered into the member's list
  into : HeardInto c.args.self.now c.hear_into-heard.new.batch
      c.len-before.result c.hear_into-heard.result
  into =
      let k = c.hear_into-heard.ensures in
      record { count = search rules; appends = k.appends; same = k.same; untouched = k.untouched }

  -- the statement came to a running member, and so its core answered
  call : Call g.D.Disk c.args.toss.0 (Hearing c.args.from c.args.s.now) c.args.self.now
      c.hear_into-heard.new.self reply_in c.hear_into-heard.result
  unfolding member_header member_is_stopped
  call =
      let disk = g.met.D.Disk in
      let k = c.hear_into-heard.ensures in
      let s = c.recall.ensures in
      record {
        laws = record {
          counts_now = disk.counts_now;
          only_now = disk.only_now;
          may_leave_seen = disk.may_leave_seen;
        };
        sound = c.requires.sound;
        going = c.if-self.false;
        replied = k.answer;
        refused = k.fault;
        news = k.memory_only_at_news;
        size = k.size;
        me = k.me;
        formed = comes_formed _ _ _ s.place s.fits;
      }

-- what was kept of the answer
kept : (g : Over) (c : goal.After-keep_last g)
    → Kept g.D.Disk c.args.self.now c.hear_into-heard.new.self (reply_in g c.before)
    c.hear_into-heard.result c.keep_last.result c.keep_last.new.self
kept g c = kept_into (into g c.before) c.keep_last.ensures

-- and its reply by the member's own lists
named : (g : Over) (c : goal.After-keep_last g)
    → IsNamed c.keep_last.result (reply_in g c.before)
    (reply_saved c.args.self.now c.keep_last.new.self)
named g c = same_reply (into g c.before) (kept g c)

pub keep_last-requires-clause-well_formed : goal.keep_last-requires-clause-well_formed
unfolding member_header
keep_last-requires-clause-well_formed g c = formed_behind _ (into g c) (well_formed (call g c))

pub returns-clause-sound : goal.returns-clause-sound
returns-clause-sound g c = sounds (call g c.before) (kept g c)

pub returns-clause-saved : goal.returns-clause-saved
returns-clause-saved g c =
    reply_as (λ r. HasSaved g.D.Disk c.args.self.now (records_of r) c.keep_last.new.self)
    (named g c) (has_saved (call g c.before) (kept g c))

pub returns-clause-event : goal.returns-clause-event
returns-clause-event g c = event_as (named g c) (one_event (call g c.before) (kept g c))

pub returns-clause-stays : goal.returns-clause-stays
returns-clause-stays g c = stays_on (call g c.before) (kept g c)
