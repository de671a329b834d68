-- The replies to commands.
use Rattle.std.specs.Prelude.{ℕ, ◌≡◌, ◌⊎◌, ◌<◌, ◌≤◌, nat_lt, Bool, true, false, Option, Some, None, length, if◌then◌else◌}
use Rattle.terms.specs.Reply.{Reply as Answers}
use Rattle.terms_prelude.specs.Terms.{Proposal, Size}
use Rattle.terms.specs.Reply.Reply.{Foreign as AsForeign, Repeat as AsRepeat, Have as AsHave, Taken as AsTaken}
use Rattle.questions.specs.Replay.Entry.{Proposed}
use Rattle.questions.specs.Replies.{reply_of}
use Rattle.questions.specs.declared.answer.Answer.{Answer}
use Rattle.member.specs.Answers.{verdict_of, IsFull}
use Rattle.member.specs.Sealed.{sealed_from}
use Rattle.member.specs.Readers.{member_disk, member_header, member_saved, member_is_stopped}
use Rattle.member.specs.declared.fault.MemberFault.{MemberFault}
use Rattle.member.specs.declared.fault.MemberFault.TheVariants as member
use Rattle.node.specs.Books.{Applies, RefusesEvent, decided_below}
use Rattle.questions.specs.Audits.{IsProof}
use Rattle.node.specs.Transcripts.{DossierView, HasNoTranscript, IsTranscript, ShowsNothing, questions_of}
use Rattle.node.specs.Views.{BookView}
use Rattle.node.specs.States.{IsState}
use Rattle.node.specs.declared.state.QuestionState.{QuestionState}
use Rattle.node.specs.declared.link_table.LinkCount.{LinkCount}
use Rattle.node.specs.declared.transcript.TranscriptFault.TheVariants as thin
use Rattle.desk.specs.declared.reply.Reply.{Reply}
use Rattle.desk.specs.declared.reply.Reply.TheVariants.{Taken, Have, Stopped, Decided, Undecided, Up, Transcript, Links, State, Thin, BadLine, BadQuestion, BadBit, Memory}

-- the reply to a proposal that the member answered so; it calls none foreign or a repeat
abbrev pub IsReplyFor : Answers → Reply → Type 0
IsReplyFor AsForeign reply = ⊥
IsReplyFor AsRepeat reply = ⊥
IsReplyFor (AsHave bit) reply = reply ≡ Have bit
IsReplyFor (AsTaken records) reply = reply ≡ Taken

-- the reply where the member refuses
abbrev pub refusal_reply : MemberFault → Reply
refusal_reply member.Stopped = Stopped
refusal_reply member.Device = Stopped
refusal_reply member.Memory = Memory
refusal_reply member.JournalFull = Stopped
refusal_reply member.NoSuchQuestion = BadQuestion
refusal_reply member.NoSuchMember = Stopped

-- The bit was proposed to the book with this toss, and this is the reply to what the book answered
abbrev pub Proposes : {D : Type 0} → BookView D → ℕ → Bool → ℕ → Reply → BookView D → Type 0
Proposes old question bit toss reply new =
    ((answer : Answer) × Applies old (Proposed question bit toss) answer new × IsReplyFor (reply_of answer) reply)
    ⊎ ((fault : MemberFault) × RefusesEvent old (Proposal question bit) fault new × (reply ≡ refusal_reply fault))

-- why a proposal is answered by a member that is stopped: it was so before, its disk failed in this call, or its journal
-- has no room for the records of the proposal
abbrev pub WhyStopped : {D : Type 0} → (D → ℕ) → BookView D → ℕ → Bool → ℕ → BookView D → Type 0
WhyStopped failures old question bit toss new =
    (member_is_stopped old.member ≡ true)
    ⊎ ((failures (member_disk old.member) < failures (member_disk new.member)) ⊎ IsFull old.member toss (Proposal question bit))

-- the reply for a verdict
abbrev pub verdict_reply : Option Bool → Reply
verdict_reply None = Undecided
verdict_reply (Some bit) = Decided bit

-- the reply to a question's asking: the book's decision, if there is such a question
abbrev pub asking_reply : {D : Type 0} → BookView D → ℕ → Reply
asking_reply b question =
    if nat_lt question (member_header b.member).size.questions then verdict_reply (verdict_of (member_saved b.member) question) else BadQuestion

-- how far the member is
abbrev pub status_reply : {D : Type 0} → BookView D → Reply
status_reply b =
    if member_is_stopped b.member then Stopped
    else Up (length (sealed_from 0 (member_saved b.member))) (decided_below (member_header b.member).size.questions (member_saved b.member))

-- the same, by what is told of how far the member is; none where it is stopped
abbrev pub standing_reply : Option (ℕ × ℕ) → Reply
standing_reply None = Stopped
standing_reply (Some status) = Up status.0 status.1

-- so many links are up, if the member is
abbrev pub links_reply : {D : Type 0} → BookView D → LinkCount → Reply
links_reply b count = if member_is_stopped b.member then Stopped else Links count (member_header b.member).size

-- the same, by what is told of how far the member is
abbrev pub standing_links : Option (ℕ × ℕ) → LinkCount → Size → Reply
standing_links None count size = Stopped
standing_links (Some status) count size = Links count size

-- the reply by how a question of the cluster stands; none where it isn't decided and the member is stopped
abbrev pub state_reply : Option QuestionState → Reply
state_reply None = Stopped
state_reply (Some state) = State state

-- the reply to who asks how a question stands at a book's member
pub record IsStateReply {D : Type 0} (b : BookView D) (question : ℕ) (reply : Reply) : Type 0 where
  pub absent : questions_of b ≤ question → reply ≡ BadQuestion
  pub there : question < questions_of b → (state : Option QuestionState) × IsState b question state × (reply ≡ state_reply state)

-- the question is the book's, and its member isn't stopped
pub record MayBeShown {D : Type 0} (b : BookView D) (question : ℕ) : Type 0 where
  pub asked : question < questions_of b
  pub is_up : member_is_stopped b.member ≡ false

-- the reply by what a transcript is made of: what was heard is no proof; memory was refused; or the transcript
abbrev pub IsDossierReply : DossierView → Reply → Type 0
IsDossierReply d Thin = ShowsNothing d thin.Thin
IsDossierReply d Memory = ShowsNothing d thin.Memory
IsDossierReply d (Transcript asked transcript) =
    (asked ≡ d.question) × (transcript.bit ≡ d.bit) × (transcript.heard.items ≡ d.heard) × IsProof d.size d.question d.bit d.heard
IsDossierReply d BadQuestion = ⊥
IsDossierReply d Stopped = ⊥
IsDossierReply d Undecided = ⊥
IsDossierReply d Taken = ⊥
IsDossierReply d (Have bit) = ⊥
IsDossierReply d (Decided bit) = ⊥
IsDossierReply d (Up statements decided) = ⊥
IsDossierReply d (Links count size) = ⊥
IsDossierReply d (State state) = ⊥
IsDossierReply d BadLine = ⊥
IsDossierReply d BadBit = ⊥

-- the reply to a transcript's asking, the first that holds: there is no such question; the member is stopped; the question
-- isn't decided; what was heard is no proof; memory was refused; or the transcript
abbrev pub IsTranscriptReply : {D : Type 0} → BookView D → ℕ → Reply → Type 0
IsTranscriptReply b question BadQuestion = questions_of b ≤ question
IsTranscriptReply b question Stopped = (question < questions_of b) × (member_is_stopped b.member ≡ true)
IsTranscriptReply b question Undecided = MayBeShown b question × HasNoTranscript b question thin.Undecided
IsTranscriptReply b question Thin = MayBeShown b question × HasNoTranscript b question thin.Thin
IsTranscriptReply b question Memory = MayBeShown b question × HasNoTranscript b question thin.Memory
IsTranscriptReply b question (Transcript asked transcript) = (asked ≡ question) × MayBeShown b question × IsTranscript b question transcript
IsTranscriptReply b question Taken = ⊥
IsTranscriptReply b question (Have bit) = ⊥
IsTranscriptReply b question (Decided bit) = ⊥
IsTranscriptReply b question (Up statements decided) = ⊥
IsTranscriptReply b question (Links count size) = ⊥
IsTranscriptReply b question (State state) = ⊥
IsTranscriptReply b question BadLine = ⊥
IsTranscriptReply b question BadBit = ⊥
