use Rattle.std.proofs.Common.{◌≡◌}
use Rattle.member.specs.Readers.{member_saved}
use Rattle.running.specs.Watches.{decided_list}
use Rattle.running.proofs.watch.Watch.new.Given as goal

abbrev pub invariant-loop-question : goal.invariant-loop-question
invariant-loop-question g l = l.told.items ≡ decided_list (member_saved l.book.member) l.question
