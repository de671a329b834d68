-- What is drawn of an event, into its row.
use Rattle.std.specs.Prelude.{ℕ, ◌+◌, ◌-◌, ◌%◌, ◌&&◌, ◌||◌, ◌≡◌, ◌==◌, nat_lt, Bool, true, false, if◌then◌else◌, Option, Some, List, [], ◌∷◌, ◌++◌, codes, length, slice_get, None}
use Rattle.std.specs.List.{flat_map, count_by}
use Rattle.std.specs.Fmt.{decimal}
use Rattle.disk.specs.declared.crash.Pick.{Pick}
use Rattle.numerals.specs.Sentences.{sentence, bit_digit}
use Rattle.terms_prelude.specs.Terms.{Record, Said, Decided, Size, Kind, Initial, Echo, Ready, kind_eq}
use Rattle.sim.specs.declared.events.Event.{Event}
use Rattle.sim.specs.declared.events.Event.TheVariants.{Propose, Deliver, DeliverAll, LieBytes, Fuse, Crash, Restart, Reset}
use Rattle.sim.specs.declared.events.Which.{Which}
use Rattle.sim.specs.declared.events.Mark.{Mark}
use Rattle.sim.specs.declared.events.Mark.TheVariants.{Done, Failed}
use Rattle.sim.specs.Texts.{calls_text, pick_text}
use Rattle.report.specs.declared.chart.column.Column.{Column}
use Rattle.report.specs.declared.chart.drawing.Words.{Words}
use Rattle.report.specs.declared.chart.drawing.Words.TheVariants as words
use Rattle.report.specs.declared.chart.drawing.Sign.TheVariants as sign
use Rattle.report.specs.Records.{kind_word}
use Rattle.report.specs.Charts.{member_of, delivered, text_if, group_count, group_text, IsLieLabel}
use Rattle.report.specs.Drawings.{Element, SignAt, Arrow, Loop, BadgeAt, words_at}
use Rattle.report.specs.Places.{column_x, of_members}

-- the question, where a cluster has several
abbrev pub on_question : ℕ → ℕ → List ℕ
on_question questions question = if nat_lt 1 questions then codes " on " ++ decimal question else []

-- one more part of a list
abbrev pub also_part : List ℕ → List ℕ
also_part part = codes ", " ++ part

-- a verb, and what it is about, a comma between each two; nothing where there is nothing
abbrev pub listed : List ℕ → List (List ℕ) → List ℕ
listed verb [] = []
listed verb (first ∷ others) = verb ++ (codes " " ++ (first ++ flat_map also_part others))

-- a decision: its bit, and its question, where a cluster has several
abbrev pub decision : ℕ → ℕ → Bool → List ℕ
decision questions question bit = decimal (bit_digit bit) ++ on_question questions question

-- each decision among records
abbrev pub decisions : ℕ → List Record → List (List ℕ)
decisions questions [] = []
decisions questions (Said s ∷ records) = decisions questions records
decisions questions (Decided question round bit ∷ records) = decision questions question bit ∷ decisions questions records

-- what is written of them
abbrev pub decided_text : ℕ → List Record → List ℕ
decided_text questions records = listed (codes "decides") (decisions questions records)

-- a crash: its sign in the member's column, and what it left
abbrev pub crash_elements : ℕ → Pick → ℕ → List Element
crash_elements member pick y =
    SignAt sign.Cross (column_x member) y ∷ words_at words.Crash (column_x member) y (sentence (codes "crash" ∷ pick_text pick ∷ []))

-- a restart: its sign in the member's column, where it is done; one that fails has none
abbrev pub restart_elements : ℕ → Mark → ℕ → List Element
restart_elements member Done y = SignAt sign.Triangle (column_x member) y ∷ words_at words.Restart (column_x member) y (codes "restart")
restart_elements member outcome y = []

-- a disk that failed: its sign in the column of its member
abbrev pub failure_elements : ℕ → Mark → ℕ → List Element
failure_elements member Failed y = SignAt sign.Ring (column_x member) y ∷ words_at words.Failure (column_x member) y (codes "disk fails")
failure_elements member outcome y = []

-- a proposal, in the column of the member that hears it
abbrev pub proposal_elements : ℕ → ℕ → ℕ → Bool → ℕ → List Element
proposal_elements questions member question bit y =
    SignAt sign.Dot (column_x member) y
    ∷ words_at words.Proposal (column_x member) y (codes "proposes " ++ (decimal (bit_digit bit) ++ on_question questions question))

-- the words of an arrow to the right, or else to the left
abbrev pub arrow_words : Bool → Words
arrow_words true = words.Rightward
arrow_words false = words.Leftward

-- those of a liar's
abbrev pub lie_words : Bool → Words
lie_words true = words.LieRightward
lie_words false = words.LieLeftward

-- what an arrow carries stands at its head too, where it crosses two columns or more
abbrev pub far_words : Words → ℕ → ℕ → List ℕ → ℕ → List Element
far_words what from to carried y = if nat_lt (from + 1) to || nat_lt (to + 1) from then words_at what (column_x to) y carried else []

-- an arrow of a correct member, from its column to the receiver's, and what it carries
abbrev pub arrow_elements : ℕ → ℕ → List ℕ → ℕ → List Element
arrow_elements from to carried y =
    if from == to then Loop (column_x from) y ∷ words_at words.Turn (column_x from) y carried
    else Arrow false (column_x from) (column_x to) y
    ∷ (words_at (arrow_words (nat_lt from to)) (column_x from) y carried ++ far_words (arrow_words (nat_lt to from)) from to carried y)

-- an arrow of a liar
abbrev pub lie_elements : ℕ → ℕ → List ℕ → ℕ → List Element
lie_elements liar to label y =
    Arrow true (column_x liar) (column_x to) y
    ∷ (words_at (lie_words (nat_lt liar to)) (column_x liar) y label ++ far_words (lie_words (nat_lt to liar)) liar to label y)

-- a fuse that is set or taken out
abbrev pub fuse_elements : ℕ → Option ℕ → ℕ → List Element
fuse_elements member calls y = words_at words.Note (column_x member) y (sentence (codes "fuse" ∷ calls_text calls ∷ []))

-- a link that starts anew, in the column of its receiver
abbrev pub reset_elements : ℕ → ℕ → ℕ → List Element
reset_elements from to y = words_at words.Note (column_x to) y (sentence (codes "reset" ∷ decimal from ∷ []))

-- what a delivery carries: the statement that the link between these columns brings
abbrev pub Carries : List Column → ℕ → ℕ → Which → List ℕ → Type 0
Carries columns from to which text = (sender receiver : Column) (place : ℕ)
    → slice_get columns from ≡ Some sender → slice_get columns to ≡ Some receiver → slice_get receiver.places.items from ≡ Some place
    → text ≡ text_if (delivered sender.said.items place which)

-- what a group carries: how many statements it brings
abbrev pub CarriesGroup : List Column → ℕ → ℕ → ℕ → List ℕ → Type 0
CarriesGroup columns from to count text = (sender receiver : Column) (place : ℕ)
    → slice_get columns from ≡ Some sender → slice_get columns to ≡ Some receiver → slice_get receiver.places.items from ≡ Some place
    → text ≡ group_text (group_count (length sender.said.items) place count)

-- what is drawn of what happens
abbrev pub IsShown : Size → List Column → Event → Mark → ℕ → List Element → Type 0
IsShown size columns (Propose member question bit toss) outcome y elements = elements ≡ proposal_elements size.questions member question bit y
IsShown size columns (Deliver from to which toss) outcome y elements =
    (text : List ℕ) × Carries columns from to which text × (elements ≡ arrow_elements from to text y)
IsShown size columns (DeliverAll from to count toss) outcome y elements =
    (text : List ℕ) × CarriesGroup columns from to count text × (elements ≡ arrow_elements from to text y)
IsShown size columns (LieBytes liar to bytes toss) outcome y elements =
    (label : List ℕ) × IsLieLabel size bytes.items label × (elements ≡ lie_elements liar to label y)
IsShown size columns (Fuse member calls) outcome y elements = elements ≡ fuse_elements member calls y
IsShown size columns (Crash member pick) outcome y elements = elements ≡ crash_elements member pick y
IsShown size columns (Restart member) outcome y elements = elements ≡ restart_elements member outcome y
IsShown size columns (Reset from to) outcome y elements = elements ≡ reset_elements from to y

-- the record is a statement of that kind
abbrev pub is_said_of : Kind → Record → Bool
is_said_of kind (Said s) = kind_eq s.kind kind
is_said_of kind (Decided question round bit) = false

-- so many statements of a kind
abbrev pub counted : Kind → ℕ → List (List ℕ)
counted kind count =
    if count == 0 then [] else (if count == 1 then kind_word kind else sentence (decimal count ∷ (kind_word kind ++ codes "s") ∷ [])) ∷ []

-- the statements of that kind among records
abbrev pub said_parts : List Record → Kind → List (List ℕ)
said_parts records kind = counted kind (count_by (is_said_of kind) records)

-- what is written of statements that were saved, kind by kind, behind a verb
abbrev pub said_text : List ℕ → List Record → List ℕ
said_text verb records = listed verb (flat_map (said_parts records) (Initial ∷ Echo ∷ Ready ∷ []))

-- what a member does with the statements that are saved
abbrev pub said_verb : Event → List ℕ
said_verb (Restart member) = codes "keeps"
said_verb event = codes "says"

-- what was said and decided, at a point
abbrev pub said_elements : ℕ → ℕ → List ℕ → List ℕ → List Element
said_elements x y [] said = words_at words.Said x y said
said_elements x y (c ∷ decided) said = BadgeAt x y (c ∷ decided) said ∷ []

-- what was saved because of an event, in the column of the event's own member
abbrev pub saved_elements : ℕ → Event → List Record → ℕ → List Element
saved_elements questions event records y =
    said_elements (column_x (member_of event)) y (decided_text questions records) (said_text (said_verb event) records)

-- the head of a column: the member's name, and whether it lies
abbrev pub head_text : ℕ → Bool → List ℕ
head_text member true = sentence (codes "member" ∷ decimal member ∷ codes "(lies)" ∷ [])
head_text member false = sentence (codes "member" ∷ decimal member ∷ [])

-- it stands on top of the column, if there is one
abbrev pub head_elements : Option Column → ℕ → ℕ → List Element
head_elements (Some column) member y = words_at words.Head (column_x member) y (head_text member column.is_liar)
head_elements None member y = []

-- the heads of the columns of n members, that far down
abbrev pub heads : ℕ → List Column → ℕ → List Element
heads n columns y = of_members n (λ member. head_elements (slice_get columns member) member y)

-- they stand again above a row, where 40 rows stand without them
abbrev pub heads_again : ℕ → List Column → ℕ → ℕ → List Element
heads_again n columns row y = if nat_lt 0 row && (row % 40 == 0) then heads n columns (y - 36) else []

-- the row of an event: heads where they stand again, its number, what happens, a disk that failed, and what was saved
pub record IsRow (size : Size) (columns : List Column) (row y number : ℕ) (event : Event) (outcome : Mark) (saved : List Record) (elements : List Element) : Type 0 where
  pub shown : List Element
  pub happens : IsShown size columns event outcome y shown
  pub order : elements ≡ heads_again size.n columns row y ++ (words_at words.Number 40 y (decimal number)
      ++ (shown ++ (failure_elements (member_of event) outcome y ++ saved_elements size.questions event saved y)))
