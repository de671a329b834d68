-- What is drawn of the members' lives: a lifeline for each, in pieces that look alike.
use Rattle.std.specs.Prelude.{ℕ, zero, suc, ◌+◌, ◌==◌, Bool, true, false, not, if◌then◌else◌, Option, Some, None, List, [], ◌∷◌, ◌++◌, slice_get, slice_set, string_bytes}
use Rattle.std.specs.Global.{Vec}
use Rattle.std.specs.List.{list_any}
use Rattle.terms_prelude.specs.Terms.{Record}
use Rattle.sim.specs.declared.events.Event.{Event}
use Rattle.sim.specs.declared.events.Event.TheVariants.{Crash, Restart}
use Rattle.sim.specs.declared.events.Mark.{Mark}
use Rattle.sim.specs.declared.events.Mark.TheVariants.{Done, Failed, Skipped}
use Rattle.report.specs.declared.chart.lifelines.Life.{Life}
use Rattle.report.specs.declared.chart.lifelines.Lifelines.{Lifelines}
use Rattle.report.specs.declared.chart.drawing.Lifeline.{Lifeline}
use Rattle.report.specs.declared.chart.drawing.Lifeline.TheVariants.{Runs, Down, Lies}
use Rattle.report.specs.Charts.{member_of}
use Rattle.report.specs.Drawings.{Element, Piece, picture_text}
use Rattle.report.specs.Places.{column_x, row_y, of_members}

-- whether the event's member runs after it, if it ran before or not: a crash and a failed disk end a life, and being
-- opened begins one
abbrev pub runs_after : Event → Mark → Bool → Bool
runs_after event (Skipped reason) runs = runs
runs_after event Failed runs = false
runs_after (Crash member pick) Done runs = false
runs_after (Restart member) Done runs = true
runs_after event Done runs = runs

-- how the lifeline of a liar, or else of a member that runs or doesn't, looks
abbrev pub line_of : Bool → Bool → Lifeline
line_of true runs = Lies
line_of false true = Runs
line_of false false = Down

-- whether the lifeline of a member looks different from an event on
abbrev pub turns : Event → Mark → Bool → Bool
turns event mark true = not (runs_after event mark true)
turns event mark false = runs_after event mark false

-- a member that runs, before the first event: its lifeline begins that far down
abbrev pub first_life : Bool → Life
first_life is_liar = record { is_liar = is_liar; runs = true; drawn = 34 }

-- the event's member behind it: where its lifeline looks different from there on, it is drawn down to the event
abbrev pub life_after : Event → Mark → ℕ → Life → Life
life_after event mark y life =
    if turns event mark life.runs then record { is_liar = life.is_liar; runs = not life.runs; drawn = y } else life

-- the piece of a lifeline that ends at an event
abbrev pub piece_elements : Option Life → Event → Mark → ℕ → List Element
piece_elements (Some life) event mark y =
    if turns event mark life.runs then Piece (line_of life.is_liar life.runs) (column_x (member_of event)) life.drawn y ∷ [] else []
piece_elements None event mark y = []

-- the last piece of a lifeline, down to the bottom
abbrev pub last_piece : Option Life → ℕ → ℕ → List Element
last_piece (Some life) member bottom = Piece (line_of life.is_liar life.runs) (column_x member) life.drawn bottom ∷ []
last_piece None member bottom = []

-- those of n members
abbrev pub last_pieces : ℕ → List Life → ℕ → List Element
last_pieces n lives bottom = of_members n (λ member. last_piece (slice_get lives member) member bottom)

-- n members before the first event
abbrev pub first_lives : ℕ → List ℕ → List Life
first_lives zero liars = []
first_lives (suc k) liars = first_lives k liars ++ first_life (list_any (λ liar. liar == k) liars) ∷ []

-- the lives, with one that became another, if it is there
abbrev pub with_life : List Life → ℕ → Option Life → (Life → Life) → List Life
with_life lives member None became = lives
with_life lives member (Some life) became = slice_set lives member (became life)

-- the members behind an event that is so far down: its own one may look different
abbrev pub lives_after : Event → Mark → ℕ → List Life → List Life
lives_after event mark y lives = with_life lives (member_of event) (slice_get lives (member_of event)) (life_after event mark y)

-- the lifelines as far as they are drawn: the members' lives, how many rows there are, and the text of the pieces
pub record Lines : Type 0 where
  pub lives : List Life
  pub rows : ℕ
  pub text : List ℕ

-- before the first event
abbrev pub first_lines : ℕ → List ℕ → Lines
first_lines n liars = record { lives = first_lives n liars; rows = 0; text = [] }

-- an event that is chosen has a row of its own; where another one changes a member, the lifeline turns where the next row stands
abbrev pub with_row : Event → Mark → Bool → Lines → Lines
with_row event mark is lines = record {
  lives = lives_after event mark (row_y lines.rows) lines.lives;
  rows = if is then lines.rows + 1 else lines.rows;
  text = lines.text ++ picture_text (piece_elements (slice_get lines.lives (member_of event)) event mark (row_y lines.rows));
}

-- behind an event, which is chosen or isn't
abbrev pub lines_behind : Event → Mark → Bool → Lines → Lines
lines_behind event (Skipped reason) is lines = lines
lines_behind event mark is lines = with_row event mark is lines

-- behind all events, as far as the shortest of the lists goes
abbrev pub lines_after : List Event → List Mark → List (Vec Record) → List Bool → Lines → Lines
lines_after [] marks saved chosen lines = lines
lines_after (event ∷ events) [] saved chosen lines = lines
lines_after (event ∷ events) (mark ∷ marks) [] chosen lines = lines
lines_after (event ∷ events) (mark ∷ marks) (records ∷ saved) [] lines = lines
lines_after (event ∷ events) (mark ∷ marks) (records ∷ saved) (is ∷ chosen) lines = lines_after events marks saved chosen (lines_behind event mark is lines)

-- those of a run of n members
abbrev pub lines_of_run : ℕ → List ℕ → List Event → List Mark → List (Vec Record) → List Bool → Lines
lines_of_run n liars events marks saved chosen = lines_after events marks saved chosen (first_lines n liars)

-- the text of the lifelines, down to the bottom of the picture
abbrev pub whole_lines : ℕ → Lines → List ℕ
whole_lines n lines = lines.text ++ picture_text (last_pieces n lines.lives (row_y lines.rows))

-- how far lifelines have come
abbrev pub drawn_lines : Lifelines → Lines
drawn_lines lines = record { lives = lines.lives.items; rows = lines.rows; text = string_bytes lines.drawing.text }
