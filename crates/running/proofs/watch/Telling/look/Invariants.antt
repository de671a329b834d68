use Rattle.std.proofs.Common.{◌≡◌}
use Rattle.member.specs.Readers.{member_saved}
use Rattle.running.specs.Watches.{AreTold, HaveFit, decisions_below}
use Rattle.running.proofs.watch.Telling.look.Given as goal

-- the questions below this one were looked at
abbrev pub invariant-loop-question : goal.invariant-loop-question
invariant-loop-question g l = record {
  events : HaveFit l.initial.self.queue (decisions_below l.initial.self.watch (member_saved l.book.member) l.question) l.self.queue;
  told : AreTold (member_saved l.book.member) l.question l.initial.self.watch.told l.self.watch.told;
  stopped : l.self.watch.stopped ≡ l.initial.self.watch.stopped;
  owed : l.self.tells_stop ≡ l.initial.self.tells_stop;
}
