-- Which events of a run are chosen, in the making, event by event.
use Rattle.std.proofs.Common.{ℕ, ◌≡◌, ◌+◌, ◌≤◌, ◌⊎◌, ◌↔◌, inl, inr, Bool, true, false, IsTrue, refl, sym, ◌∙◌, subst, append_assoc, append-nil, List, [], ◌∷◌, ◌++◌, length, drop}
use Rattle.std.specs.Global.{Vec}
use Rattle.std.proofs.Math.ListN.{drop_of_length-le}
use Rattle.terms_prelude.specs.Terms.{Record, Size}
use Rattle.sim.specs.declared.events.Event.{Event}
use Rattle.sim.specs.declared.events.Mark.{Mark}
use Rattle.report.specs.declared.chart.choice.Choice.{Choice}
use Rattle.report.specs.declared.chart.column.Column.{Column}
use Rattle.report.specs.Traces.{is_skipped}
use Rattle.report.specs.Columns.{AreNew, FollowAll}
use Rattle.report.specs.Choices.{IsShownEvent, IsJudged, AreJudged, AreChosen}

-- a skipped event
pub skipped_is : (choice : Choice) (size : Size) (number : ℕ) (event : Event) (mark : Mark) (saved : List Record) (columns : List Column) → is_skipped mark ≡ true
    → IsJudged choice size number event mark saved columns columns false
skipped_is choice size number event mark saved columns e = record {
  passed_over = λ skipped. (refl, refl);
  chosen = λ kept. let no : true ≡ false = sym e ∙ kept in cc;
  follow = λ kept. let no : true ≡ false = sym e ∙ kept in cc;
  count = refl;
}

-- another one
pub judged_is : (choice : Choice) (size : Size) (number : ℕ) (event : Event) (mark : Mark) (saved : List Record) (old new : List Column) (is : Bool) → is_skipped mark ≡ false
    → (IsTrue is ↔ IsShownEvent choice size old number event saved) → FollowAll event mark saved old new → length new ≡ length old
    → IsJudged choice size number event mark saved old new is
judged_is choice size number event mark saved old new is e chosen follow count = record {
  passed_over = λ skipped. let no : true ≡ false = sym skipped ∙ e in cc;
  chosen = λ kept. chosen;
  follow = λ kept. follow;
  count = count;
}

-- the same of the choice and the size by other names
pub judged_with : (v choice : Choice) (z size : Size) (number : ℕ) (event : Event) (mark : Mark) (saved : List Record) (old new : List Column) (is : Bool) → v ≡ choice → z ≡ size
    → IsJudged v z number event mark saved old new is → IsJudged choice size number event mark saved old new is
judged_with v choice z size number event mark saved old new is a b judged =
    subst (λ (w : Size). IsJudged choice w number event mark saved old new is) b (subst (λ (w : Choice). IsJudged w z number event mark saved old new is) a judged)

-- how far it has come after so many events
pub record IsSo (choice : Choice) (size : Size) (liars : List ℕ) (events : List Event) (marks : List Mark) (saved : List (Vec Record)) (index : ℕ) (columns : List Column) (chosen : List Bool) : Type 0 where
  pub first : List Column
  pub begins : AreNew size.n size.n liars first
  pub onward : (others : List Bool) → AreJudged choice size (index + 1) (drop index events) (drop index marks) (drop index saved) columns others
      → AreJudged choice size 1 events marks saved first (chosen ++ others)

-- one event more
pub so_on : (choice : Choice) (size : Size) (liars : List ℕ) (events : List Event) (marks : List Mark) (saved : List (Vec Record)) (i : ℕ) (old new : List Column) (chosen : List Bool)
    (event : Event) (mark : Mark) (records : Vec Record) (kept : List Record) (is : Bool) → kept ≡ records.items → IsSo choice size liars events marks saved i old chosen
    → IsJudged choice size (i + 1) event mark kept old new is
    → drop i events ≡ event ∷ drop (i + 1) events → drop i marks ≡ mark ∷ drop (i + 1) marks → drop i saved ≡ records ∷ drop (i + 1) saved
    → IsSo choice size liars events marks saved (i + 1) new (chosen ++ is ∷ [])
so_on choice size liars events marks saved i old new chosen event mark records kept is same so judges a b d = record {
  first = so.first;
  begins = so.begins;
  onward = λ others judged.
      let here : AreJudged choice size (i + 1) (event ∷ drop (i + 1) events) (mark ∷ drop (i + 1) marks) (records ∷ drop (i + 1) saved) old (is ∷ others) =
      (new, is, others, subst (λ (l : List Record). IsJudged choice size (i + 1) event mark l old new is) same judges, judged, refl) in
      let there : AreJudged choice size (i + 1) (drop i events) (drop i marks) (drop i saved) old (is ∷ others) =
      subst (λ (l : List (Vec Record)). AreJudged choice size (i + 1) (drop i events) (drop i marks) l old (is ∷ others)) (sym d)
      (subst (λ (l : List Mark). AreJudged choice size (i + 1) (drop i events) l (records ∷ drop (i + 1) saved) old (is ∷ others)) (sym b)
      (subst (λ (l : List Event). AreJudged choice size (i + 1) l (mark ∷ drop (i + 1) marks) (records ∷ drop (i + 1) saved) old (is ∷ others)) (sym a)
      here)) in
      subst (λ (l : List Bool). AreJudged choice size 1 events marks saved so.first l) (sym (append_assoc chosen (is ∷ []) others)) (so.onward (is ∷ others) there);
}

no_marks : (choice : Choice) (size : Size) (number : ℕ) (events : List Event) (saved : List (Vec Record)) (columns : List Column) → AreJudged choice size number events [] saved columns []
no_marks choice size number [] saved columns = refl
no_marks choice size number (e ∷ events) saved columns = refl

no_saved : (choice : Choice) (size : Size) (number : ℕ) (events : List Event) (marks : List Mark) (columns : List Column) → AreJudged choice size number events marks [] columns []
no_saved choice size number [] marks columns = refl
no_saved choice size number (e ∷ events) [] columns = refl
no_saved choice size number (e ∷ events) (m ∷ marks) columns = refl

-- behind the shortest list nothing is judged
none_left : (choice : Choice) (size : Size) (number k : ℕ) (events : List Event) (marks : List Mark) (saved : List (Vec Record)) (columns : List Column)
    → (length events ≤ k) ⊎ ((length marks ≤ k) ⊎ (length saved ≤ k))
    → AreJudged choice size number (drop k events) (drop k marks) (drop k saved) columns []
none_left choice size number k events marks saved columns (inl h) =
    subst (λ (l : List Event). AreJudged choice size number l (drop k marks) (drop k saved) columns []) (sym (drop_of_length-le events h)) refl
none_left choice size number k events marks saved columns (inr (inl h)) =
    subst (λ (l : List Mark). AreJudged choice size number (drop k events) l (drop k saved) columns []) (sym (drop_of_length-le marks h))
    (no_marks choice size number (drop k events) (drop k saved) columns)
none_left choice size number k events marks saved columns (inr (inr h)) =
    subst (λ (l : List (Vec Record)). AreJudged choice size number (drop k events) (drop k marks) l columns []) (sym (drop_of_length-le saved h))
    (no_saved choice size number (drop k events) (drop k marks) columns)

-- all are judged
pub so_done : (choice : Choice) (size : Size) (liars : List ℕ) (events : List Event) (marks : List Mark) (saved : List (Vec Record)) (i : ℕ) (columns : List Column) (chosen : List Bool)
    → IsSo choice size liars events marks saved i columns chosen → (length events ≤ i) ⊎ ((length marks ≤ i) ⊎ (length saved ≤ i))
    → AreChosen choice size liars events marks saved chosen
so_done choice size liars events marks saved i columns chosen so ended = record {
  first = so.first;
  begins = so.begins;
  judged = subst (λ (l : List Bool). AreJudged choice size 1 events marks saved so.first l) (append-nil chosen)
      (so.onward [] (none_left choice size (i + 1) i events marks saved columns ended));
}
