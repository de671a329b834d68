-- What a client's session reads and writes.
use Rattle.std.specs.Prelude.{ℕ, ◌≡◌, ◌⊎◌, ◌<◌, ◌≤◌, Bool, true, Option, Some, None, Result, Ok, Err, List, [], ◌∷◌, ◌++◌, length}
use Rattle.std.specs.List.{All, flat_map}
use mathlib.Core.List.{IsPrefix}
use Rattle.numerals.specs.Lines.{NoEnd, line}
use Rattle.node.specs.declared.link_table.LinkCount.{LinkCount}
use Rattle.node.specs.Accounts.{Group}
use Rattle.node.specs.Standings.{IsBookAt}
use Rattle.node.specs.Transcripts.{AreFirstsOn, WereHeard}
use Rattle.node.specs.Verdicts.{known_at, KnowsMore, PassView}
use Rattle.node.specs.Views.{BookView}
use Rattle.node.specs.States.{IsState}
use Rattle.node.specs.declared.state.QuestionState.{QuestionState}
use Rattle.node.specs.declared.transcript.Transcript.{Transcript as Text}
use Rattle.terms_prelude.specs.Terms.{Header, Record}
use Rattle.links.specs.Told.{Told, has_written, has_failed, has_ended, BreaksOff}
use Rattle.member.specs.Readers.{member_is_stopped}
use Rattle.desk.specs.Lines.{AsksToFollow, LineAsks, IsOfBrowser}
use Rattle.desk.specs.Commands.{AsksNothing, command_for}
use Rattle.desk.specs.Answers.{IsTranscriptReply, Proposes, links_reply, state_reply, status_reply, verdict_reply}
use Rattle.desk.specs.Replies.{reply_text}
use Rattle.desk.specs.declared.line.LineRequest.{LineRequest}
use Rattle.desk.specs.declared.command.Command.{Command}
use Rattle.desk.specs.declared.command.Command.TheVariants.{Propose, Ask, Await, Status, Transcript, Links, State}
use Rattle.desk.specs.declared.reply.Reply.{Reply}
use Rattle.desk.specs.declared.reply.Reply.TheVariants.{BadLine, Decided, Stopped, Transcript as TellsTranscript, Undecided}
use Rattle.desk.specs.declared.serving.DeskEnd.{DeskEnd}
use Rattle.desk.specs.declared.serving.DeskEnd.TheVariants as end

-- what a session goes on with: what its pass knows of the board, the groups that the account of the hub's book had when the
-- session saw it last, and its tosser
pub record Sitting (T : Type 0) : Type 0 where
  pub known : List (Option Bool)
  pub log : List Group
  pub tosser : T

abbrev pub sitting : {T : Type 0} → PassView → T → Sitting T
sitting pass tosser = record { known = pass.known; log = pass.log; tosser = tosser }

-- the session learns no verdict, and sees the account go on
pub record LooksOn {T : Type 0} (before after : Sitting T) : Type 0 where
  pub known : after.known ≡ before.known
  pub later : IsPrefix before.log after.log

-- what the hub's book replies to a proposal that is done to it once, with the toss that was drawn for it
pub record IsProposalReply {T : Type 0} (D : Type 0) (may_toss : T → ℕ → T → Type 0) (header : Header) (opening : List Record) (before : T) (question : ℕ) (bit : Bool) (log : List Group) (reply : Reply) (after : T) : Type 0 where
  pub toss : ℕ
  pub drawn : may_toss before toss after
  pub old : BookView D
  pub old_is : IsBookAt header opening log old
  pub new : BookView D
  pub new_is : IsBookAt header opening log new
  pub proposes : Proposes old question bit toss reply new

-- what the hub's book replies where it is asked how far it is; a toss is drawn for it too
pub record IsStatusReply {T : Type 0} (D : Type 0) (may_toss : T → ℕ → T → Type 0) (header : Header) (opening : List Record) (before : T) (log : List Group) (reply : Reply) (after : T) : Type 0 where
  pub toss : ℕ
  pub drawn : may_toss before toss after
  pub book : BookView D
  pub book_is : IsBookAt header opening log book
  pub status : reply ≡ status_reply book

-- how many links are up, each way no more than there are members, where the hub's book is asked whether its member is
pub record IsLinksReply (D : Type 0) (header : Header) (opening : List Record) (log : List Group) (reply : Reply) : Type 0 where
  pub book : BookView D
  pub book_is : IsBookAt header opening log book
  pub count : LinkCount
  pub incoming : count.incoming ≤ header.size.n
  pub outgoing : count.outgoing ≤ header.size.n
  pub links : reply ≡ links_reply book count

-- how a question stands at the member of the hub's book
pub record IsStateTold (D : Type 0) (header : Header) (opening : List Record) (log : List Group) (question : ℕ) (reply : Reply) : Type 0 where
  pub book : BookView D
  pub book_is : IsBookAt header opening log book
  pub state : Option QuestionState
  pub state_is : IsState book question state
  pub told : reply ≡ state_reply state

-- what the hub's book replies to who asks for a transcript
pub record IsTranscriptTold (D : Type 0) (header : Header) (opening : List Record) (log : List Group) (question : ℕ) (reply : Reply) : Type 0 where
  pub book : BookView D
  pub book_is : IsBookAt header opening log book
  pub told : IsTranscriptReply book question reply
  -- no statement is told that wasn't heard, and of each member just its firsts on the question are
  pub heard : (asked : ℕ) (text : Text) → reply ≡ TellsTranscript asked text → WereHeard log text.heard.items
  pub firsts : (asked : ℕ) (text : Text) → reply ≡ TellsTranscript asked text → AreFirstsOn log question text.heard.items

-- the hub's book has a member that is stopped
pub record IsStoppedAt (D : Type 0) (header : Header) (opening : List Record) (log : List Group) : Type 0 where
  pub book : BookView D
  pub book_is : IsBookAt header opening log book
  pub stopped : member_is_stopped book.member ≡ true

-- the reply to who waits for a decision, by what is known then: that decision; or that there is none yet, or that the member
-- of the hub's book is stopped
abbrev pub IsAwaitReply : Type 0 → Header → List Record → List Group → Option Bool → Reply → Type 0
IsAwaitReply D header opening log (Some bit) reply = reply ≡ Decided bit
IsAwaitReply D header opening log None reply = (reply ≡ Undecided) ⊎ ((reply ≡ Stopped) × IsStoppedAt D header opening log)

-- the reply to a command, by the hub's book as far as the session sees it then
abbrev pub AnswersCommand : {T : Type 0} → Type 0 → (T → ℕ → T → Type 0) → Header → List Record → Sitting T → Command → Reply → Sitting T → Type 0
AnswersCommand D may_toss header opening before (Propose question bit) reply after =
    LooksOn before after × IsProposalReply D may_toss header opening before.tosser question bit after.log reply after.tosser
-- what was known stays known, and the reply is what is known then
AnswersCommand D may_toss header opening before (Ask question) reply after =
    (after.tosser ≡ before.tosser) × (after.log ≡ before.log) × KnowsMore before.known after.known
    × (reply ≡ verdict_reply (known_at after.known question))
AnswersCommand D may_toss header opening before (Await question) reply after =
    (after.tosser ≡ before.tosser) × IsPrefix before.log after.log × KnowsMore before.known after.known
    × IsAwaitReply D header opening after.log (known_at after.known question) reply
AnswersCommand D may_toss header opening before Status reply after =
    LooksOn before after × IsStatusReply D may_toss header opening before.tosser after.log reply after.tosser
-- no toss is drawn
AnswersCommand D may_toss header opening before (Transcript question) reply after =
    (after.tosser ≡ before.tosser) × LooksOn before after × IsTranscriptTold D header opening after.log question reply
AnswersCommand D may_toss header opening before (State question) reply after =
    (after.tosser ≡ before.tosser) × LooksOn before after × IsStateTold D header opening after.log question reply
AnswersCommand D may_toss header opening before Links reply after =
    (after.tosser ≡ before.tosser) × LooksOn before after × IsLinksReply D header opening after.log reply

-- the reply to a command, or the refusal where there is none
abbrev pub AnswersRequest : {T : Type 0} → Type 0 → (T → ℕ → T → Type 0) → Header → List Record → Sitting T → Result Command Reply → Reply → Sitting T → Type 0
AnswersRequest D may_toss header opening before (Ok command) reply after = AnswersCommand D may_toss header opening before command reply after
AnswersRequest D may_toss header opening before (Err refusal) reply after = (reply ≡ refusal) × (after ≡ before)

-- the reply to a line, by the hub with that header
abbrev pub AnswersLine : {T : Type 0} → Type 0 → (T → ℕ → T → Type 0) → Header → List Record → Sitting T → List ℕ → Reply → Sitting T → Type 0
AnswersLine D may_toss header opening before asked reply after =
    (AsksNothing asked × (reply ≡ BadLine) × (after ≡ before))
    ⊎ ((request : LineRequest) × LineAsks asked request × AnswersRequest D may_toss header opening before (command_for header.size.questions request) reply after)

-- a line without its byte 10
pub record IsLine (bytes : List ℕ) : Type 0 where
  pub no_end : NoEnd bytes
  pub short : length bytes ≤ 4096

-- a line of a client, and the reply that was written
pub record Exchange : Type 0 where
  pub asked : List ℕ
  pub reply : Reply

-- the line has this reply
pub record IsExchange {S : Type 0} (Replies : S → List ℕ → Reply → S → Type 0) (before : S) (x : Exchange) (after : S) : Type 0 where
  pub is_line : IsLine x.asked
  pub replied : Replies before x.asked x.reply after

-- The lines have these replies, in turn: each goes on from where the one before it ended. So a decision that was told is
-- told again where it is asked for again.
abbrev pub InTurn : {S : Type 0} → (S → List ℕ → Reply → S → Type 0) → S → List Exchange → S → Type 0
InTurn Replies before [] after = after ≡ before
InTurn {S} Replies before (x ∷ exchanges) after =
    (between : S) × IsExchange Replies before x between × InTurn Replies between exchanges after

-- the bytes of the lines, and those of the replies
abbrev pub asked_in : List Exchange → List ℕ
asked_in exchanges = flat_map (λ x. line x.asked) exchanges

abbrev pub replied_in : List Exchange → List ℕ
replied_in exchanges = flat_map (λ x. line (reply_text x.reply)) exchanges

-- the lines were read and the replies written, and behind the lines a rest was read
abbrev pub exchanged : Told → List Exchange → List ℕ → Told
exchanged old exchanges rest = record old {
  taken = old.taken ++ (asked_in exchanges ++ rest);
  written = old.written ++ replied_in exchanges;
}

-- the first 4,097 bytes end no line
pub record IsTooLong (bytes : List ℕ) : Type 0 where
  pub front : List ℕ
  pub more : List ℕ
  pub whole : bytes ≡ front ++ more
  pub no_end : NoEnd front
  pub long : length front ≡ 4097

-- the rest is the last line of an input, with no byte 10 behind it, and this is its reply
abbrev pub IsLastLine : {S : Type 0} → (S → List ℕ → Reply → S → Type 0) → S → List ℕ → Reply → S → Type 0
IsLastLine Replies before rest reply after =
    (0 < length rest) × IsExchange Replies before (record { asked = rest; reply = reply }) after

-- the rest begins with a line of a browser
pub record BeginsRequest (rest : List ℕ) : Type 0 where
  pub asked : List ℕ
  pub more : List ℕ
  pub whole : rest ≡ line asked ++ more
  pub is_line : IsLine asked
  pub browser : IsOfBrowser asked

-- This reply is owed for the rest, where the stream tells `now`: the rest begins with a line, or with one that is too long or
-- of a browser, or it is the last line of an input that ended.
abbrev pub Owes : {S : Type 0} → (S → List ℕ → Reply → S → Type 0) → S → Told → List ℕ → Told → Reply → S → Type 0
Owes Replies before served rest now reply after =
    ((asked : List ℕ) × (more : List ℕ) × (rest ≡ line asked ++ more)
    × IsExchange Replies before (record { asked = asked; reply = reply }) after × (now ≡ served))
    ⊎ (((IsTooLong rest ⊎ BeginsRequest rest) × (reply ≡ BadLine) × (after ≡ before) × (now ≡ served))
    ⊎ (IsLastLine Replies before rest reply after × (now ≡ has_ended served)))

-- the rest begins with a line that asks for decisions from that number on
pub record BeginsToFollow (rest : List ℕ) (number : ℕ) : Type 0 where
  pub asked : List ℕ
  pub more : List ℕ
  pub whole : rest ≡ line asked ++ more
  pub is_line : IsLine asked
  pub follows : AsksToFollow asked number

-- how a session ends whose stream told `served` with the rest behind its last reply, and tells `now`
abbrev pub EndsBy : {S : Type 0} → (S → List ℕ → Reply → S → Type 0) → S → Told → List ℕ → Told → DeskEnd → S → Type 0
-- the input ended, and what stands behind the last byte 10 was answered as a line
EndsBy Replies before served rest now end.Ended after =
    ((rest ≡ []) × (after ≡ before) × (now ≡ has_ended served))
    ⊎ ((reply : Reply) × IsLastLine Replies before rest reply after × (now ≡ has_written (has_ended served) (line (reply_text reply))))
-- a line was too long, and was answered so
EndsBy Replies before served rest now end.TooLong after =
    IsTooLong rest × (after ≡ before) × (now ≡ has_written served (line (reply_text BadLine)))
-- a line was one of a browser, and was answered so
EndsBy Replies before served rest now end.Request after =
    BeginsRequest rest × (after ≡ before) × (now ≡ has_written served (line (reply_text BadLine)))
-- a line asked for decisions from a number on, and nothing was written for it
EndsBy Replies before served rest now (end.Follows number) after =
    BeginsToFollow rest number × (after ≡ before) × (now ≡ served)
-- a read failed within a line, or the write of a reply did
EndsBy Replies before served rest now end.Lost after =
    (IsLine rest × (after ≡ before) × (now ≡ has_failed served))
    ⊎ ((told : Told) × (reply : Reply) × Owes Replies before served rest told reply after × BreaksOff told now (line (reply_text reply)))

-- a line behind which the session goes on: none of a browser, and none that follows decisions
pub record GoesOn (asked : List ℕ) : Type 0 where
  pub no_browser : IsOfBrowser asked → ⊥
  pub no_follower : (number : ℕ) → AsksToFollow asked number → ⊥

abbrev pub AllGoOn : List Exchange → Type 0
AllGoOn exchanges = All (λ x. GoesOn x.asked) exchanges

-- A client's session: its lines were answered in turn, up to a rest, and then it ended.
pub record Serves {S : Type 0} (Replies : S → List ℕ → Reply → S → Type 0) (before after : S) (old now : Told) (why : DeskEnd) : Type 0 where
  pub exchanges : List Exchange
  pub rest : List ℕ
  pub between : S
  pub each : InTurn Replies before exchanges between
  pub all_go_on : AllGoOn exchanges
  pub ends : EndsBy Replies between (exchanged old exchanges rest) rest now why after

-- A client's session whose stream was lost while it held replies, few bytes that were never written: with these it is one that
-- lost its stream, or one that came to another end before a write failed.
pub record LosesReplies {S : Type 0} (Replies : S → List ℕ → Reply → S → Type 0) (before after : S) (old now : Told) : Type 0 where
  pub unsaid : List ℕ
  pub few : length unsaid ≤ 4096
  pub would :
      Serves Replies before after old (has_written now unsaid) end.Lost
      ⊎ ((told : Told) × (why : DeskEnd) × Serves Replies before after old told why × (has_written now unsaid ≡ has_failed told))

-- A client's session whose replies are written together: nothing is held at its end, but where its stream was lost.
abbrev pub ServesTogether : {S : Type 0} → (S → List ℕ → Reply → S → Type 0) → S → S → Told → Told → DeskEnd → Type 0
ServesTogether Replies before after old now why =
    Serves Replies before after old now why ⊎ ((why ≡ end.Lost) × LosesReplies Replies before after old now)
