use Rattle.std.proofs.Common.{List, subst, sym}
use Rattle.terms_prelude.specs.Terms.{Header, Record}
use Rattle.questions.specs.Replay.{Entry, IsReplay}
use Rattle.questions.specs.Words.{reply_of}
use Rattle.member.specs.Words.{replies_of, member_header, member_saved}
use Rattle.node.specs.Settled.{IsSeatOf}
use Rattle.node.specs.Words.{heard_in, lengthened}
use Rattle.node.proofs.Linking.{own_link, other_link, own_link_all, other_link_all, proposal_link}
use Rattle.node.proofs.Replaying.{replay_lengthened}
use Rattle.node.proofs.laws.answers.Goals as goal

pub returns-clause-own : goal.returns-clause-own
returns-clause-own g c = λ old new seat after s toss a lawful seated applies handed.
    subst (λ (h : List Entry). IsSeatOf seat.peer h after) (sym applies.history)
    (own_link (member_header old.member).size (member_header old.member).me (member_saved old.member) old.history seat after s toss (reply_of a) lawful seated handed applies.reply)

pub returns-clause-others : goal.returns-clause-others
returns-clause-others g c = λ old new seat peer from s toss a differs seated applies.
    subst (λ (h : List Entry). IsSeatOf peer h seat) (sym applies.history) (other_link old.history seat peer from s toss (reply_of a) differs seated)

pub returns-clause-proposal : goal.returns-clause-proposal
returns-clause-proposal g c = λ old new seat peer question toss bit a seated applies.
    subst (λ (h : List Entry). IsSeatOf peer h seat) (sym applies.history) (proposal_link old.history seat peer question toss bit (reply_of a) seated)

pub returns-clause-own_all : goal.returns-clause-own_all
returns-clause-own_all g c = λ old new seat after events answers lawful seated applies handed.
    subst (λ (h : List Entry). IsSeatOf seat.peer h after) (sym applies.history)
    (own_link_all (member_header old.member).size (member_header old.member).me (member_saved old.member) old.history seat after events (replies_of answers) lawful seated handed applies.replies)

pub returns-clause-others_all : goal.returns-clause-others_all
returns-clause-others_all g c = λ old new seat peer from events answers differs seated applies.
    subst (λ (h : List Entry). IsSeatOf peer h seat) (sym applies.history) (other_link_all old.history seat peer from events (replies_of answers) differs seated)

pub returns-clause-replay : goal.returns-clause-replay
returns-clause-replay g c = λ old new e a was applies.
    subst (λ (l : List Record). IsReplay (member_header new.member).size (member_header new.member).me l new.history (member_saved new.member) (heard_in new.history)) (sym applies.opening)
    (subst (λ (h : Header). IsReplay h.size h.me old.opening new.history (member_saved new.member) (heard_in new.history)) (sym applies.header)
    (subst (λ (h : List Entry). IsReplay (member_header old.member).size (member_header old.member).me old.opening h (member_saved new.member) (heard_in h)) (sym applies.history)
    (subst (λ (l : List Record). IsReplay (member_header old.member).size (member_header old.member).me old.opening (lengthened old.history e (reply_of a)) l (heard_in (lengthened old.history e (reply_of a)))) (sym applies.saved)
    (replay_lengthened (member_header old.member).size (member_header old.member).me old.opening (member_saved old.member) old.history e (reply_of a) was applies.reply))))
