-- What a chart keeps.
use Rattle.std.proofs.Common.{ℕ, suc, ◌≡◌, ◌+◌, ◌<◌, refl, sym, ap, ◌∙◌, subst, arith, append_assoc, append-nil, Bool, Option, codes, List, [], ◌∷◌, ◌++◌, length, take, get_or}
use Rattle.std.specs.Global.{Vec}
use Rattle.std.proofs.Math.Seq.{take-suc}
use Rattle.terms_prelude.specs.Terms.{Record, Said, Decided, Statement, Size}
use Rattle.std.specs.Io.KnownBytes.{Appends}
use Rattle.std.proofs.KnownBytes.{Appends-trans}
use Rattle.sim.specs.declared.events.Event.{Event}
use Rattle.sim.specs.declared.events.Mark.{Mark}
use Rattle.report.specs.declared.chart.choice.Choice.{Choice}
use Rattle.report.specs.Charts.{statements_said, IsSvg}
use Rattle.report.specs.Choices.{AreChosen}
use Rattle.report.specs.Lives.{lines_of_run, whole_lines}
use Rattle.report.specs.Places.{column_x, row_y}
use Rattle.report.specs.Runs.{size_text, page_text, legend_text, picture_top, picture_end, chart_picture, AreRows, IsChart}

statements-append : (xs ys : List Record) → statements_said (xs ++ ys) ≡ statements_said xs ++ statements_said ys
statements-append [] ys = refl
statements-append (Said s ∷ xs) ys = ap (λ (rest : List Statement). s ∷ rest) (statements-append xs ys)
statements-append (Decided question round bit ∷ xs) ys = statements-append xs ys

-- the statements of one record more
pub statements_more : (xs : List Record) (i : ℕ) (d r : Record) → i < length xs → get_or xs i d ≡ r
    → statements_said (take (i + 1) xs) ≡ statements_said (take i xs) ++ statements_said (r ∷ [])
statements_more xs i d r within at =
    let n : suc i ≡ i + 1 = omega arith in
    let step : take (i + 1) xs ≡ take i xs ++ r ∷ [] =
    subst (λ k. take k xs ≡ take i xs ++ r ∷ []) n (take-suc xs i d within ∙ ap (λ (y : Record). take i xs ++ y ∷ []) at) in
    ap statements_said step ∙ statements-append (take i xs) (r ∷ [])

-- two lists behind another, and the two as one
pub behind : (before some more all : List Statement) → all ≡ some ++ more → (before ++ some) ++ more ≡ before ++ all
behind before some more all e = append_assoc before some more ∙ ap (λ (l : List Statement). before ++ l) (sym e)

-- a decision is no statement
pub not_said : (r : Record) (before : List Statement) → ((s : Statement) → r ≡ Said s → ⊥) → before ++ statements_said (r ∷ []) ≡ before
not_said (Said s) before h = absurd (h s refl)
not_said (Decided question round bit) before h = append-nil before

-- the beginning of a picture from its parts
pub top_is : (width bottom height : ℕ) (size page lifelines : List ℕ) → height ≡ bottom + 196 → size ≡ size_text width height → page ≡ page_text width height
    → codes "<svg " ++ (size ++ (page ++ lifelines)) ≡ picture_top width bottom lifelines
top_is width bottom height size page lifelines h one two =
    ap (λ (t : List ℕ). codes "<svg " ++ (t ++ (page ++ lifelines))) (one ∙ ap (size_text width) h)
    ∙ ap (λ (t : List ℕ). codes "<svg " ++ (size_text width (bottom + 196) ++ (t ++ lifelines))) (two ∙ ap (page_text width) h)

-- its end
pub end_is : (bottom below : ℕ) (legend : List ℕ) → below ≡ bottom + 36 → legend ≡ legend_text below → legend ++ codes "</svg>\n" ≡ picture_end bottom
end_is bottom below legend b l = ap (λ (t : List ℕ). t ++ codes "</svg>\n") (l ∙ ap legend_text b)

behind_five : (a b c d e : List ℕ) → (a ++ b) ++ (c ++ (d ++ e)) ≡ a ++ ((b ++ (c ++ d)) ++ e)
behind_five a b c d e = simp append_assoc

-- a chart from what was written, one behind the other
pub chart_written : (a b c d : Option (List ℕ)) (choice : Choice) (size : Size) (liars : List ℕ) (events : List Event) (marks : List Mark) (saved : List (Vec Record)) (chosen : List Bool)
    (width bottom count : ℕ) (lines : List ℕ) → AreChosen choice size liars events marks saved chosen
    → width ≡ column_x size.n → bottom ≡ row_y (lines_of_run size.n liars events marks saved chosen).rows
    → count ≡ (lines_of_run size.n liars events marks saved chosen).rows
    → lines ≡ whole_lines size.n (lines_of_run size.n liars events marks saved chosen) → Appends a b (picture_top width bottom lines)
    → ((rows : List ℕ) × AreRows size liars events marks saved chosen rows × Appends b c rows) → Appends c d (picture_end bottom)
    → (text : List ℕ) × IsChart choice size liars events marks saved count text × IsSvg text × Appends a d text
chart_written a b c d choice size liars events marks saved chosen width bottom count lines are w h n l one rows three =
    let run = lines_of_run size.n liars events marks saved chosen in
    let is : picture_top width bottom lines ++ (rows.0 ++ picture_end bottom) ≡ chart_picture size.n run rows.0 =
    λ t. picture_top (w t) (h t) (l t) ++ (rows.0 ++ picture_end (h t)) in (
      chart_picture size.n run rows.0,
      record { chosen = chosen; rows = rows.0; choose = are; drawn = rows.1; counted = n; is = refl },
      (
        (size_text (column_x size.n) (row_y run.rows + 196) ++ (page_text (column_x size.n) (row_y run.rows + 196) ++ whole_lines size.n run)) ++ (rows.0 ++ legend_text (row_y run.rows + 36)),
        behind_five (codes "<svg ") (size_text (column_x size.n) (row_y run.rows + 196) ++ (page_text (column_x size.n) (row_y run.rows + 196) ++ whole_lines size.n run)) rows.0
            (legend_text (row_y run.rows + 36)) (codes "</svg>\n"),
      ),
      subst (λ (t : List ℕ). Appends a d t) is
          (Appends-trans a b d (picture_top width bottom lines) (rows.0 ++ picture_end bottom) one (Appends-trans b c d rows.0 (picture_end bottom) rows.2 three)),
    )
