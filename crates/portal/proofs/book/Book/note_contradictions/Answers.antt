use Rattle.portal.proofs.Comings.{then_contradict}
use Rattle.portal.proofs.book.Book.note_contradictions.Goals as goal

pub loop-member-preserved : goal.loop-member-preserved
loop-member-preserved c =
    then_contradict c.args.question c.args.self.now c.loop-member.self c.note_contradiction.new.self c.loop-member.invariant c.note_contradiction.ensures.told
