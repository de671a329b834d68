use Rattle.std.proofs.Common.{⊎_elim}
use Rattle.terms_prelude.specs.Terms.{records_of, records_of_all, without_tosses}
use Rattle.disk.specs.Memory.{memory_state}
use Rattle.member.proofs.Cuts.{left_over, left_in, left_in_all}
use Rattle.member.proofs.laws.cut_off.Goals as goal

pub returns-clause-event : goal.returns-clause-event
returns-clause-event g c = λ header liars w toss event old new left may called keeps since rest.
    ⊎_elim (λ same. absurd (called same))
    (λ cut. (
      cut.reply,
      (
        cut.replies,
        cut.allowed,
        left_in w header (memory_state left) event (records_of cut.reply) (left_over header (memory_state left) (w.journal header.me) (records_of cut.reply) ((cut.leaves keeps).each (memory_state left).seen since) rest),
      ),
    ))
    may

pub returns-clause-group : goal.returns-clause-group
returns-clause-group g c = λ header liars w es old new left may called keeps since rest.
    ⊎_elim (λ same. absurd (called same))
    (λ cut. (
      cut.replies,
      (
        cut.all_reply,
        cut.allowed,
        left_in_all w header (memory_state left) (without_tosses es) (records_of_all cut.replies) (left_over header (memory_state left) (w.journal header.me) (records_of_all cut.replies) ((cut.leaves keeps).each (memory_state left).seen since) rest),
      ),
    ))
    may
