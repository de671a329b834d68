-- What `hear` answers to one statement, to one piece of a stream, and to one line.
use Rattle.std.specs.Prelude.{ℕ, ◌≡◌, Option, List, [], ◌++◌, codes}
use Rattle.std.specs.List.{flat_map}
use Rattle.terms_prelude.specs.Terms.{Echo, Ready, Value, Place, Statement, Record, Said, Decided, Size, Past, no_past, after_hearing, MaySay, IsLeast, said_if, after_records}
use Rattle.wire.specs.declared.message.Message.{Message}
use Rattle.wire.specs.declared.message.Message.TheVariants as message
use Rattle.wire.specs.declared.message.WireFault.{WireFault}
use Rattle.wire.specs.declared.message.WireFault.TheVariants.{BadLength, BadType, BadKind, BadPlace, BadValue, BadHello, BadCount}
use Rattle.wire.specs.Texts.{frame_bytes}
use Rattle.wire.specs.Reading.{End, Rest, Broken}
use Rattle.wire.specs.Feeding.{Feeds}
use Rattle.rbc.specs.declared.Heard.{Heard}
use Rattle.rbc.specs.declared.Heard.TheVariants.{News, Repeat, Foreign}
use Rattle.rbc.specs.Answers.{heard_as}
use Rattle.hex.specs.Hex.{encode_lower}
use Rattle.numerals.specs.Lines.{line}
use Rattle.hearing.specs.Pieces.{IsPiece}
use Rattle.hearing.specs.InTurn.{InTurn}
pub use Rattle.terms.specs.Keep.{put}

-- the frame of what was said, in lower case digits
abbrev pub frame_line : Record → List ℕ
frame_line (Said s) = line (encode_lower (frame_bytes (message.Statement s)))
frame_line (Decided question round bit) = []

-- of the name of a fault
abbrev pub fault_name : WireFault → List ℕ
fault_name BadLength = codes "BadLength"
fault_name BadType = codes "BadType"
fault_name BadKind = codes "BadKind"
fault_name BadPlace = codes "BadPlace"
fault_name BadValue = codes "BadValue"
fault_name BadHello = codes "BadHello"
fault_name BadCount = codes "BadCount"

-- what is said after news: the Echo and the Ready that are then due, each where one is
pub record SaysDue (past : Past) (place : Place) (after : Past) (text : List ℕ) : Type 0 where
  pub echo : Option Value
  pub ready : Option Value
  pub echo_is : IsLeast (MaySay past Echo place) echo
  pub ready_is : IsLeast (MaySay past Ready place) ready
  pub after_is : after ≡ after_records (after_records past (said_if Echo place echo)) (said_if Ready place ready)
  pub text_is : text ≡ flat_map frame_line (said_if Echo place echo) ++ flat_map frame_line (said_if Ready place ready)

-- a statement that was taken so is answered by the text
abbrev pub AnswersAs : Heard → Past → ℕ → Statement → Past → List ℕ → Type 0
AnswersAs Foreign before from s after text = (after ≡ before) × (text ≡ line (codes "foreign"))
AnswersAs Repeat before from s after text = (after ≡ before) × (text ≡ line (codes "repeat"))
AnswersAs News before from s after text =
    (others : List ℕ) × SaysDue (after_hearing before from s) s.place after others × (text ≡ line (codes "news") ++ others)

-- the sender's statement is answered by the text
abbrev pub AnswersStatement : ℕ → Past → Statement → Past → List ℕ → Type 0
AnswersStatement from before s after text = AnswersAs (heard_as before from s) before from s after text

-- what was read of each sender's stream, and what happened in the broadcasts of each question
pub record Hearing : Type 0 where
  pub ends : ℕ → End
  pub pasts : ℕ → Past

-- at the beginning of all streams
abbrev pub no_hearing : Size → ℕ → Hearing
no_hearing size me = record { ends = λ a. Rest []; pasts = λ q. no_past size me q }

abbrev pub with_end : Hearing → ℕ → End → Hearing
with_end h from end = record { ends = put h.ends from end; pasts = h.pasts }

abbrev pub with_past : Hearing → ℕ → Past → Hearing
with_past h question past = record { ends = h.ends; pasts = put h.pasts question past }

-- the sender's statement is answered by the text, from the past of its question
abbrev pub AnswersOne : ℕ → Hearing → Statement → Hearing → List ℕ → Type 0
AnswersOne from before s after text =
    (past : Past) × AnswersStatement from (before.pasts s.place.question) s past text
    × (after ≡ with_past before s.place.question past)

-- the sender's message is answered by the text: a statement, and several in turn. The others change nothing and are
-- answered by none
abbrev pub AnswersMessage : ℕ → Hearing → Message → Hearing → List ℕ → Type 0
AnswersMessage from before message.Idle after text = (after ≡ before) × (text ≡ [])
AnswersMessage from before (message.Hello version cluster size dialler dialled) after text = (after ≡ before) × (text ≡ [])
AnswersMessage from before (message.Welcome next) after text = (after ≡ before) × (text ≡ [])
AnswersMessage from before (message.Statement s) after text = AnswersOne from before s after text
AnswersMessage from before (message.Statements many) after text = InTurn (AnswersOne from) before many after text

-- a stream that is broken is named so, once for each piece
abbrev pub broken_line : End → List ℕ
broken_line (Rest rest) = []
broken_line (Broken fault) = line (codes "broken " ++ fault_name fault)

-- the sender's piece is answered by the text: the messages that it completes in turn, and then the fault
pub record AnswersPiece (size : Size) (from : ℕ) (before : Hearing) (piece : List ℕ) (after : Hearing) (text : List ℕ) : Type 0 where
  pub messages : List Message
  pub end : End
  pub others : List ℕ
  pub fed : Feeds size (before.ends from) piece [] messages end
  pub answered : InTurn (AnswersMessage from) (with_end before from end) messages after others
  pub text_is : text ≡ others ++ broken_line end

-- the line is answered by the text
abbrev pub AnswersInput : Size → Hearing → List ℕ → Hearing → List ℕ → Type 0
AnswersInput size before line after text =
    (sender : ℕ) × (piece : List ℕ) × IsPiece size.n line sender piece × AnswersPiece size sender before piece after text
