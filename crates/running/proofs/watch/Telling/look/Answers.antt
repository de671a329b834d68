use Rattle.std.proofs.Common.{rules, ◌<◌, ◌∙◌, length}
use Rattle.member.specs.Readers.{member_saved}
use Rattle.running.proofs.Looking.{come_next, stop_stays, told_on}
use Rattle.running.proofs.watch.Telling.look.Goals as goal

pub loop-question-preserved : goal.loop-question-preserved
loop-question-preserved g c =
    let saved = member_saved c.args.book.now.member in
    let k = c.loop-question.question in
    let old = c.args.self.now in
    let mid = c.loop-question.self in
    let room : length mid.queue.events < 1024 = search (rules, c.is_full.ensures, c.if-is_full) in
    record {
      events = come_next saved k old.watch mid.watch old.queue mid.queue c.put.new.self.queue c.decision-decision.result
          c.loop-question.invariant.events c.loop-question.invariant.told room c.decision-decision.ensures.event c.put.ensures.queue;
      told = told_on saved k old.watch mid.watch c.decision-decision.new.self c.put.new.self.watch c.decision-decision.ensures.told
          c.put.ensures.watch c.loop-question.invariant.told;
      stopped = stop_stays saved k old.watch mid.watch c.decision-decision.new.self c.put.new.self.watch c.decision-decision.ensures.told
          c.put.ensures.watch c.loop-question.invariant.stopped;
      owed = c.put.ensures.owed ∙ c.loop-question.invariant.owed;
    }
