-- Lifelines in the making, event by event.
use Rattle.std.proofs.Common.{ℕ, ◌≡◌, ◌+◌, ◌<◌, ◌≤◌, ◌⊎◌, inl, inr, Bool, true, false, if◌then◌else◌, refl, sym, ap, ◌∙◌, arith, Some, List, [], ◌∷◌, ◌++◌, length, drop}
use Rattle.std.specs.Global.{Vec}
use Rattle.std.proofs.Math.ListN.{drop_of_length-le}
use Rattle.terms_prelude.specs.Terms.{Record}
use Rattle.sim.specs.declared.events.Event.{Event}
use Rattle.sim.specs.declared.events.Mark.{Mark}
use Rattle.sim.specs.declared.events.Mark.TheVariants.{Done, Failed, Skipped}
use Rattle.report.specs.declared.chart.drawing.Lifeline.{Lifeline}
use Rattle.report.specs.declared.chart.lifelines.Life.{Life}
use Rattle.report.specs.Traces.{is_skipped}
use Rattle.report.specs.Drawings.{Piece, picture_text}
use Rattle.report.specs.Lives.{Lines, line_of, last_piece, last_pieces, whole_lines, with_row, lines_behind, lines_after}
use Rattle.report.specs.Places.{column_x, row_y}

-- a list that is longer than a number has something
pub some_of : {A : Type 0} (xs : List A) (i : ℕ) → i < length xs → A
some_of [] i h = absurd (omega (arith, h))
some_of (x ∷ xs) i h = x

-- the last piece of a lifeline
pub piece_is : (life : Life) (member bottom : ℕ) (line : Lifeline) (x : ℕ) → line ≡ line_of life.is_liar life.runs → x ≡ column_x member
    → (Piece line x life.drawn bottom ∷ []) ≡ last_piece (Some life) member bottom
piece_is life member bottom line x a b = rw (a, b) refl

-- lifelines that are drawn to the bottom
pub whole_is : (drawn run : Lines) (n members bottom : ℕ) → drawn ≡ run → members ≡ n → bottom ≡ row_y run.rows
    → drawn.text ++ picture_text (last_pieces members drawn.lives bottom) ≡ whole_lines n run
whole_is drawn run n members bottom d m b = λ t. (d t).text ++ picture_text (last_pieces (m t) (d t).lives (b t))

-- a skipped event
pub stays : (event : Event) (mark : Mark) (is : Bool) (lines : Lines) → is_skipped mark ≡ true → lines ≡ lines_behind event mark is lines
stays event Done is lines e = cc
stays event Failed is lines e = cc
stays event (Skipped reason) is lines e = refl

-- another one
pub rows_on : (event : Event) (mark : Mark) (is : Bool) (lines : Lines) → is_skipped mark ≡ false → with_row event mark is lines ≡ lines_behind event mark is lines
rows_on event Done is lines e = refl
rows_on event Failed is lines e = refl
rows_on event (Skipped reason) is lines e = cc

perhaps_one : (is : Bool) (rows : ℕ) → (if is then rows + 1 else rows) ≤ rows + 1
perhaps_one true rows = omega arith
perhaps_one false rows = omega arith

-- at most one row more
pub rows_few : (event : Event) (mark : Mark) (is : Bool) (lines : Lines) → (lines_behind event mark is lines).rows ≤ lines.rows + 1
rows_few event Done is lines = perhaps_one is lines.rows
rows_few event Failed is lines = perhaps_one is lines.rows
rows_few event (Skipped reason) is lines = omega arith

-- one event more
pub lines_on : (i : ℕ) (events : List Event) (marks : List Mark) (saved : List (Vec Record)) (chosen : List Bool) (old new all : Lines) (event : Event) (mark : Mark) (records : Vec Record)
    (is : Bool) → drop i events ≡ event ∷ drop (i + 1) events → drop i marks ≡ mark ∷ drop (i + 1) marks → drop i saved ≡ records ∷ drop (i + 1) saved
    → drop i chosen ≡ is ∷ drop (i + 1) chosen
    → new ≡ lines_behind event mark is old → lines_after (drop i events) (drop i marks) (drop i saved) (drop i chosen) old ≡ all
    → lines_after (drop (i + 1) events) (drop (i + 1) marks) (drop (i + 1) saved) (drop (i + 1) chosen) new ≡ all
lines_on i events marks saved chosen old new all event mark records is a b d f step before =
    ap (lines_after (drop (i + 1) events) (drop (i + 1) marks) (drop (i + 1) saved) (drop (i + 1) chosen)) step ∙ sym (λ t. lines_after (a t) (b t) (d t) (f t) old) ∙ before

no_marks : (events : List Event) (saved : List (Vec Record)) (chosen : List Bool) (lines : Lines) → lines_after events [] saved chosen lines ≡ lines
no_marks [] saved chosen lines = refl
no_marks (e ∷ events) saved chosen lines = refl

no_saved : (events : List Event) (marks : List Mark) (chosen : List Bool) (lines : Lines) → lines_after events marks [] chosen lines ≡ lines
no_saved [] marks chosen lines = refl
no_saved (e ∷ events) [] chosen lines = refl
no_saved (e ∷ events) (m ∷ marks) chosen lines = refl

no_chosen : (events : List Event) (marks : List Mark) (saved : List (Vec Record)) (lines : Lines) → lines_after events marks saved [] lines ≡ lines
no_chosen [] marks saved lines = refl
no_chosen (e ∷ events) [] saved lines = refl
no_chosen (e ∷ events) (m ∷ marks) [] lines = refl
no_chosen (e ∷ events) (m ∷ marks) (r ∷ saved) lines = refl

-- behind the shortest list nothing is drawn
pub none_left : (k : ℕ) (events : List Event) (marks : List Mark) (saved : List (Vec Record)) (chosen : List Bool) (lines : Lines)
    → (length events ≤ k) ⊎ ((length marks ≤ k) ⊎ ((length saved ≤ k) ⊎ (length chosen ≤ k)))
    → lines_after (drop k events) (drop k marks) (drop k saved) (drop k chosen) lines ≡ lines
none_left k events marks saved chosen lines (inl h) =
    ap (λ (l : List Event). lines_after l (drop k marks) (drop k saved) (drop k chosen) lines) (drop_of_length-le events h)
none_left k events marks saved chosen lines (inr (inl h)) =
    ap (λ (l : List Mark). lines_after (drop k events) l (drop k saved) (drop k chosen) lines) (drop_of_length-le marks h)
    ∙ no_marks (drop k events) (drop k saved) (drop k chosen) lines
none_left k events marks saved chosen lines (inr (inr (inl h))) =
    ap (λ (l : List (Vec Record)). lines_after (drop k events) (drop k marks) l (drop k chosen) lines) (drop_of_length-le saved h)
    ∙ no_saved (drop k events) (drop k marks) (drop k chosen) lines
none_left k events marks saved chosen lines (inr (inr (inr h))) =
    ap (λ (l : List Bool). lines_after (drop k events) (drop k marks) (drop k saved) l lines) (drop_of_length-le chosen h)
    ∙ no_chosen (drop k events) (drop k marks) (drop k saved) lines
