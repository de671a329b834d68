use Rattle.std.proofs.Common.{rules, ◌∙◌, ◌<◌, ◌==◌, ◌%◌}
use Rattle.terms_prelude.specs.Terms.{Proposal}
use Rattle.chances.specs.Tables.{Answers, correct_of}
use Rattle.chances.proofs.Moves.{proposed_more}
use Rattle.chances.proofs.game.propose_all.Goals as goal

pub loop-member-preserved : goal.loop-member-preserved
loop-member-preserved c =
    let within : c.loop-member.member < correct_of c.loop-member.table = search (rules, c.correct-member-end.ensures.value, c.loop-member-test.true, c.loop-member.invariant.1) in
    let told : Answers c.loop-member.member (Proposal 0 (c.loop-member.member % 2 == 1)) c.loop-member.table c.propose.new.self = search (rules, within, c.in_ok-propose.ensures.told) in
    (proposed_more c.loop-member.member c.args.table.now c.loop-member.table c.propose.new.self c.loop-member.invariant.0 told, told.says.correct ∙ c.loop-member.invariant.1)
