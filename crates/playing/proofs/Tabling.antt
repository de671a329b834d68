-- The rows of a run, one by one.
use Rattle.std.proofs.Common.{ℕ, ◌≡◌, ◌≤◌, ◌⊎◌, inl, inr, refl, sym, ap, ◌∙◌, ◌+◌, append_assoc, append-nil, List, [], ◌∷◌, ◌++◌, length, drop, Option}
use Rattle.std.specs.Io.KnownBytes.{Appends}
use Rattle.std.proofs.KnownBytes.{Appends-trans}
use Rattle.std.specs.Global.{Vec}
use Rattle.std.proofs.Math.ListN.{drop_of_length-le}
use Rattle.terms_prelude.specs.Terms.{Record}
use Rattle.sim.specs.declared.events.Event.{Event}
use Rattle.sim.specs.declared.events.Mark.{Mark}
use Rattle.playing.specs.Rows.{row_if, left_after, rows_from}

-- one row more, or none
pub rows_on : (left now i : ℕ) (events : List Event) (marks : List Mark) (saved : List (Vec Record)) (written row all : List ℕ) (event : Event) (mark : Mark) (records : Vec Record)
    → now ≡ left_after left mark → row ≡ row_if left (i + 1) event mark records.items
    → drop i events ≡ event ∷ drop (i + 1) events → drop i marks ≡ mark ∷ drop (i + 1) marks → drop i saved ≡ records ∷ drop (i + 1) saved
    → written ++ rows_from left (i + 1) (drop i events) (drop i marks) (drop i saved) ≡ all
    → (written ++ row) ++ rows_from now (i + 1 + 1) (drop (i + 1) events) (drop (i + 1) marks) (drop (i + 1) saved) ≡ all
rows_on left now i events marks saved written row all event mark records after is a b d before =
    let rest : List ℕ = rows_from (left_after left mark) (i + 1 + 1) (drop (i + 1) events) (drop (i + 1) marks) (drop (i + 1) saved) in
    let step : rows_from left (i + 1) (drop i events) (drop i marks) (drop i saved) ≡ row_if left (i + 1) event mark records.items ++ rest =
    λ t. rows_from left (i + 1) (a t) (b t) (d t) in
    ap (λ (k : ℕ). (written ++ row) ++ rows_from k (i + 1 + 1) (drop (i + 1) events) (drop (i + 1) marks) (drop (i + 1) saved)) after
    ∙ append_assoc written row rest ∙ ap (λ (t : List ℕ). written ++ (t ++ rest)) is ∙ ap (λ (t : List ℕ). written ++ t) (sym step) ∙ before

-- the same, with what was written before
pub rows_step : (a b c : Option (List ℕ)) (left now i : ℕ) (events : List Event) (marks : List Mark) (saved : List (Vec Record)) (all : List ℕ) (event : Event) (mark : Mark) (records : Vec Record) (kept : List Record)
    → kept ≡ records.items → now ≡ left_after left mark
    → drop i events ≡ event ∷ drop (i + 1) events → drop i marks ≡ mark ∷ drop (i + 1) marks → drop i saved ≡ records ∷ drop (i + 1) saved
    → ((written : List ℕ) × Appends a b written × (written ++ rows_from left (i + 1) (drop i events) (drop i marks) (drop i saved) ≡ all))
    → Appends b c (row_if left (i + 1) event mark kept)
    → (written : List ℕ) × Appends a c written
    × (written ++ rows_from now (i + 1 + 1) (drop (i + 1) events) (drop (i + 1) marks) (drop (i + 1) saved) ≡ all)
rows_step a b c left now i events marks saved all event mark records kept same after x y z before row = (
  before.0 ++ row_if left (i + 1) event mark kept,
  Appends-trans a b c before.0 (row_if left (i + 1) event mark kept) before.1 row,
  rows_on left now i events marks saved before.0 (row_if left (i + 1) event mark kept) all event mark records after
      (ap (λ (k : List Record). row_if left (i + 1) event mark k) same) x y z before.2,
)

no_marks : (left number : ℕ) (events : List Event) (saved : List (Vec Record)) → rows_from left number events [] saved ≡ []
no_marks left number [] saved = refl
no_marks left number (e ∷ events) saved = refl

no_saved : (left number : ℕ) (events : List Event) (marks : List Mark) → rows_from left number events marks [] ≡ []
no_saved left number [] marks = refl
no_saved left number (e ∷ events) [] = refl
no_saved left number (e ∷ events) (m ∷ marks) = refl

-- after the shortest list nothing is left
pub none_left : (left number k : ℕ) (events : List Event) (marks : List Mark) (saved : List (Vec Record))
    → (length events ≤ k) ⊎ ((length marks ≤ k) ⊎ (length saved ≤ k)) → rows_from left number (drop k events) (drop k marks) (drop k saved) ≡ []
none_left left number k events marks saved (inl h) = rw (drop_of_length-le events h) refl
none_left left number k events marks saved (inr (inl h)) = rw (drop_of_length-le marks h) (no_marks left number (drop k events) (drop k saved))
none_left left number k events marks saved (inr (inr h)) = rw (drop_of_length-le saved h) (no_saved left number (drop k events) (drop k marks))

-- so the rows are all
pub whole : (text all : List ℕ) (left number k : ℕ) (events : List Event) (marks : List Mark) (saved : List (Vec Record))
    → text ++ rows_from left number (drop k events) (drop k marks) (drop k saved) ≡ all
    → (length events ≤ k) ⊎ ((length marks ≤ k) ⊎ (length saved ≤ k)) → text ≡ all
whole text all left number k events marks saved e h =
    sym (append-nil text) ∙ ap (λ (rest : List ℕ). text ++ rest) (sym (none_left left number k events marks saved h)) ∙ e
