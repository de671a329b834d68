-- What is drawn of a whole run.
use Rattle.std.specs.Prelude.{ℕ, ◌≡◌, ◌+◌, Bool, true, false, List, [], ◌∷◌, ◌++◌, codes, length}
use Rattle.std.specs.Global.{Vec}
use Rattle.std.specs.Fmt.{decimal}
use Rattle.terms_prelude.specs.Terms.{Record, Size}
use Rattle.sim.specs.declared.events.Event.{Event}
use Rattle.sim.specs.declared.events.Mark.{Mark}
use Rattle.sim.specs.declared.events.Mark.TheVariants.{Skipped}
use Rattle.report.specs.declared.chart.TheConstants.{STYLE, LEGEND}
use Rattle.report.specs.declared.chart.choice.Choice.{Choice}
use Rattle.report.specs.declared.chart.column.Column.{Column}
use Rattle.report.specs.Choices.{AreChosen}
use Rattle.report.specs.Columns.{AreNew, FollowAll}
use Rattle.report.specs.Drawings.{Element, joined, picture_text}
use Rattle.report.specs.Lives.{Lines, lines_of_run, whole_lines}
use Rattle.report.specs.Pictures.{IsRow, heads}
use Rattle.report.specs.Places.{column_x, row_y}

-- how far a chart has come: what it knows of the members, and how many rows it has
pub record Stage : Type 0 where
  pub columns : List Column
  pub row : ℕ

-- an event with its row
pub record IsTaken (size : Size) (number : ℕ) (event : Event) (outcome : Mark) (saved : List Record) (old new : Stage) (row : List Element) : Type 0 where
  pub follow : FollowAll event outcome saved old.columns new.columns
  pub count : length new.columns ≡ length old.columns
  pub below : new.row ≡ old.row + 1
  pub drawn : IsRow size old.columns old.row (row_y old.row) number event outcome saved row

-- an event that isn't chosen is followed, but has no row
pub record IsLeftOut (event : Event) (outcome : Mark) (saved : List Record) (old new : Stage) (row : List Element) : Type 0 where
  pub follow : FollowAll event outcome saved old.columns new.columns
  pub count : length new.columns ≡ length old.columns
  pub stays : new.row ≡ old.row
  pub no_row : row ≡ []

-- an event that was skipped leaves no trace
pub record IsPassedOver (old new : Stage) (row : List Element) : Type 0 where
  pub stage : new ≡ old
  pub no_row : row ≡ []

-- an event of that number, counted from 1, that is chosen or isn't
abbrev pub IsDrawn : Size → ℕ → Event → Mark → List Record → Bool → Stage → Stage → List Element → Type 0
IsDrawn size number event (Skipped reason) saved is old new row = IsPassedOver old new row
IsDrawn size number event outcome saved true old new row = IsTaken size number event outcome saved old new row
IsDrawn size number event outcome saved false old new row = IsLeftOut event outcome saved old new row

-- the rows of the events, the first of which has that number, as far as the shortest of the lists goes
abbrev pub AreDrawn : Size → ℕ → List Event → List Mark → List (Vec Record) → List Bool → Stage → Stage → List Element → Type 0
AreDrawn size number [] marks saved chosen old new rows = (new ≡ old) × (rows ≡ [])
AreDrawn size number (event ∷ events) [] saved chosen old new rows = (new ≡ old) × (rows ≡ [])
AreDrawn size number (event ∷ events) (mark ∷ marks) [] chosen old new rows = (new ≡ old) × (rows ≡ [])
AreDrawn size number (event ∷ events) (mark ∷ marks) (records ∷ saved) [] old new rows = (new ≡ old) × (rows ≡ [])
AreDrawn size number (event ∷ events) (mark ∷ marks) (records ∷ saved) (is ∷ chosen) old new rows =
    (next : Stage) × (row others : List Element) × IsDrawn size number event mark records.items is old next row
    × AreDrawn size (number + 1) events marks saved chosen next new others × (rows ≡ row ++ others)

-- the picture's own attributes, and the size of its page
abbrev pub size_text : ℕ → ℕ → List ℕ
size_text width height =
    joined (codes "xmlns=\"http://www.w3.org/2000/svg\" width=\"" ∷ decimal width ∷ codes "\" height=\"" ∷ decimal height
    ∷ codes "\" viewBox=\"0 0 " ∷ decimal width ∷ codes " " ∷ decimal height ∷ codes "\">\n" ∷ [])

-- how the elements look, and the page below them
abbrev pub page_text : ℕ → ℕ → List ℕ
page_text width height =
    joined (STYLE.now ∷ codes "\n<rect class=\"page\" width=\"" ∷ decimal width ∷ codes "\" height=\"" ∷ decimal height ∷ codes "\"/>\n" ∷ [])

-- what the signs mean, that far down
abbrev pub legend_text : ℕ → List ℕ
legend_text below = joined (codes "<g transform=\"translate(0," ∷ decimal below ∷ codes ")\">\n" ∷ LEGEND.now ∷ codes "</g>\n" ∷ [])

-- the beginning of an SVG text of that width, as far down as that, and the lifelines, above which all else is drawn
abbrev pub picture_top : ℕ → ℕ → List ℕ → List ℕ
picture_top width bottom lifelines =
    joined (codes "<svg " ∷ size_text width (bottom + 196) ∷ page_text width (bottom + 196) ∷ lifelines ∷ [])

-- its end, with the legend
abbrev pub picture_end : ℕ → List ℕ
picture_end bottom = legend_text (bottom + 36) ++ codes "</svg>\n"

-- that of n members, with these lifelines and rows
abbrev pub chart_picture : ℕ → Lines → List ℕ → List ℕ
chart_picture n lines rows =
    picture_top (column_x n) (row_y lines.rows) (whole_lines n lines) ++ (rows ++ picture_end (row_y lines.rows))

-- the heads of all columns, and below them the rows of the events that are chosen
pub record AreRows (size : Size) (liars : List ℕ) (events : List Event) (marks : List Mark) (saved : List (Vec Record)) (chosen : List Bool) (text : List ℕ) : Type 0 where
  pub first : List Column
  pub last : Stage
  pub rows : List Element
  pub begins : AreNew size.n size.n liars first
  pub drawn : AreDrawn size 1 events marks saved chosen (record { columns = first; row = 0 }) last rows
  pub is : text ≡ picture_text (heads size.n first 24 ++ rows)

-- the chart of a run, with so many rows: those of the events that are chosen, over lifelines of all events that reach to the
-- bottom
pub record IsChart (choice : Choice) (size : Size) (liars : List ℕ) (events : List Event) (marks : List Mark) (saved : List (Vec Record)) (count : ℕ) (text : List ℕ) : Type 0 where
  pub chosen : List Bool
  pub rows : List ℕ
  pub choose : AreChosen choice size liars events marks saved chosen
  pub drawn : AreRows size liars events marks saved chosen rows
  pub counted : count ≡ (lines_of_run size.n liars events marks saved chosen).rows
  pub is : text ≡ chart_picture size.n (lines_of_run size.n liars events marks saved chosen) rows
