-- What the chart of a run makes of its events.
use Rattle.std.specs.Prelude.{ℕ, ◌+◌, ◌-◌, ◌^◌, ◌≡◌, ◌<◌, ◌==◌, ◌⊎◌, nat_le, if◌then◌else◌, Option, Some, None, List, [], ◌∷◌, ◌++◌, codes, length, min, take, slice_get, slice_index}
use Rattle.std.specs.Fmt.{decimal}
use Rattle.hex.specs.Hex.{encode_lower}
use Rattle.numerals.specs.Sentences.{sentence}
use Rattle.terms_prelude.specs.Terms.{Record, Said, Decided, Statement, Size}
use Rattle.wire.specs.declared.message.Message.TheVariants as message
use Rattle.wire.specs.Reading.{ReadsMessages, Rest}
use Rattle.report.specs.Records.{statement_text}
use Rattle.sim.specs.declared.events.Event.{Event}
use Rattle.sim.specs.declared.events.Event.TheVariants.{Propose, Deliver, DeliverAll, LieBytes, Fuse, Crash, Restart, Reset}
use Rattle.sim.specs.declared.events.Which.{Which}
use Rattle.sim.specs.declared.events.Which.TheVariants.{Next, At}
use Rattle.sim.specs.declared.events.Mark.{Mark}
use Rattle.sim.specs.declared.events.Mark.TheVariants.{Done, Skipped}

-- the member that an event is for
abbrev pub member_of : Event → ℕ
member_of (Propose member question bit toss) = member
member_of (Deliver from to which toss) = to
member_of (DeliverAll from to count toss) = to
member_of (LieBytes liar to bytes toss) = to
member_of (Fuse member calls) = member
member_of (Crash member pick) = member
member_of (Restart member) = member
member_of (Reset from to) = to

-- how many statements come as one group of at most so many, of all that their sender has said, over a link at that place
abbrev pub group_count : ℕ → ℕ → ℕ → ℕ
group_count said place count = min (min count 256) (said - place)

-- where that member's link from a sender is after an event that wasn't skipped: one further where its next statement
-- came, as many as came in a group, of so many that their sender had said, at its start after a restart that is done and
-- after its own reset
abbrev pub place_after : ℕ → Event → Mark → ℕ → ℕ → ℕ
place_after said event (Skipped reason) sender place = place
place_after said (Deliver from to Next toss) mark sender place = if sender == from then place + 1 else place
place_after said (DeliverAll from to count toss) mark sender place = if sender == from then place + group_count said place count else place
place_after said (Restart member) Done sender place = 0
place_after said (Reset from to) mark sender place = if sender == from then 0 else place
place_after said event mark sender place = place

-- the statements among records, in order
abbrev pub statements_said : List Record → List Statement
statements_said [] = []
statements_said (Said s ∷ records) = s ∷ statements_said records
statements_said (Decided question round bit ∷ records) = statements_said records

-- which statement a delivery is of: the one at the link's place, or the one of the number
abbrev pub delivered : List Statement → ℕ → Which → Option Statement
delivered said place Next = slice_get said place
delivered said place (At number) = slice_get said number

-- what the arrow of a group of so many carries
abbrev pub group_text : ℕ → List ℕ
group_text count = sentence (codes "group" ∷ codes "of" ∷ decimal count ∷ [])

-- the words of a statement, if there is one
abbrev pub text_if : Option Statement → List ℕ
text_if (Some s) = statement_text s
text_if None = []

-- bytes in hexadecimal digits, of which 24 are shown at most
abbrev pub bytes_label : List ℕ → List ℕ
bytes_label bytes = if nat_le (length bytes) 12 then encode_lower bytes else encode_lower (take 12 bytes) ++ codes ".."

-- the bytes are the frame of that statement, and nothing else
abbrev pub IsFrameOf : Size → List ℕ → Statement → Type 0
IsFrameOf size bytes s = ReadsMessages size bytes (message.Statement s ∷ []) (Rest [])

-- what the arrow of a lie carries: the words of the statement whose frame its bytes are, or where they are none the bytes
abbrev pub IsLieLabel : Size → List ℕ → List ℕ → Type 0
IsLieLabel size bytes label =
    ((s : Statement) × IsFrameOf size bytes s × (label ≡ statement_text s))
    ⊎ (((s : Statement) → IsFrameOf size bytes s → ⊥) × (label ≡ bytes_label bytes))

-- Each place is where the link from the sender of its number is after the event, if there is a number for it. The event's
-- own sender had said so many statements.
abbrev pub AreMoved : ℕ → Event → Mark → List ℕ → List ℕ → Type 0
AreMoved said event mark old new =
    (a : ℕ) → a < length old → slice_index old a + 1 < 2 ^ 64 → slice_index new a ≡ place_after said event mark a (slice_index old a)

-- an SVG text by its beginning and its end
abbrev pub IsSvg : List ℕ → Type 0
IsSvg text = (body : List ℕ) × (text ≡ codes "<svg " ++ (body ++ codes "</svg>\n"))
