-- A chart in the making, event by event.
use Rattle.std.proofs.Common.{ℕ, zero, suc, ◌≡◌, ◌+◌, ◌==◌, ◌<◌, ◌≤◌, ◌⊎◌, inl, inr, Bool, true, false, refl, sym, ap, ◌∙◌, subst, arith, append_assoc, append-nil, length-append, string_bytes, Option, Some, None, List, [], ◌∷◌, ◌++◌, length, length-take-le, min, take, drop, get_or, slice_get}
use Rattle.std.specs.Global.{Vec}
use Rattle.std.specs.List.{list_any}
use Rattle.std.proofs.lemmas.Grind.{flat_map-append}
use Rattle.std.proofs.Math.ListN.{drop_of_length-le}
use Rattle.std.proofs.Math.Nat.{min-le_left, min-le_right}
use Rattle.std.proofs.lemmas.List.{drop_more}
use Rattle.std.specs.Io.KnownBytes.{Appends}
use Rattle.std.proofs.KnownBytes.{Appends-trans}
use Rattle.terms_prelude.specs.Terms.{Record, Size}
use Rattle.sim.specs.declared.events.Event.{Event}
use Rattle.sim.specs.declared.events.Mark.{Mark}
use Rattle.sim.specs.declared.events.Mark.TheVariants.{Done, Failed, Skipped}
use Rattle.report.specs.declared.chart.Canvas.{Canvas}
use Rattle.report.specs.declared.chart.column.Column.{Column}
use Rattle.report.specs.declared.chart.drawing.Drawing.{Drawing}
use Rattle.report.specs.Traces.{is_skipped}
use Rattle.report.specs.Columns.{IsNew, AreNew, FollowAll}
use Rattle.report.specs.Drawings.{Element, Grows, element_text, picture_text}
use Rattle.report.specs.Pictures.{heads}
use Rattle.report.specs.Runs.{Stage, IsTaken, IsLeftOut, IsPassedOver, IsDrawn, AreDrawn, AreRows}
use Rattle.report.specs.Scenes.{stage_of, DrawsOnly, IsBegun, Draws, DrawsIf}
use Rattle.report.proofs.Elements.{unchanged}

some_same : (x y : Column) → Some x ≡ Some y → x ≡ y
some_same x y h = cc

skipped_is : (size : Size) (number : ℕ) (event : Event) (mark : Mark) (saved : List Record) (is : Bool) (old new : Stage) (row : List Element) → is_skipped mark ≡ true
    → IsPassedOver old new row → IsDrawn size number event mark saved is old new row
skipped_is size number event Done saved is old new row e h = cc
skipped_is size number event Failed saved is old new row e h = cc
skipped_is size number event (Skipped reason) saved is old new row e h = h

drawn_is : (size : Size) (number : ℕ) (event : Event) (mark : Mark) (saved : List Record) (old new : Stage) (row : List Element) → is_skipped mark ≡ false
    → IsTaken size number event mark saved old new row → IsDrawn size number event mark saved true old new row
drawn_is size number event Done saved old new row e h = h
drawn_is size number event Failed saved old new row e h = h
drawn_is size number event (Skipped reason) saved old new row e h = cc

left_is : (size : Size) (number : ℕ) (event : Event) (mark : Mark) (saved : List Record) (old new : Stage) (row : List Element) → is_skipped mark ≡ false
    → IsLeftOut event mark saved old new row → IsDrawn size number event mark saved false old new row
left_is size number event Done saved old new row e h = h
left_is size number event Failed saved old new row e h = h
left_is size number event (Skipped reason) saved old new row e h = cc

-- a skipped event
pub passed_over : (is : Bool) (number : ℕ) (event : Event) (mark : Mark) (saved : List Record) (canvas : Canvas) → is_skipped mark ≡ true
    → DrawsIf is number event mark saved canvas canvas
passed_over is number event mark saved canvas e = record {
  row = [];
  size_is = refl;
  drawn = skipped_is canvas.size number event mark saved is (stage_of canvas) (stage_of canvas) [] e (record { stage = refl; no_row = refl });
  events = unchanged canvas.events [] refl;
}

-- one that is chosen
pub passed : (is : Bool) (number : ℕ) (event : Event) (mark : Mark) (saved : List Record) (old new : Canvas) → is_skipped mark ≡ false → is ≡ true
    → Draws number event mark saved old new → DrawsIf is number event mark saved old new
passed is number event mark saved old new e chosen taken = record {
  row = taken.row;
  size_is = taken.size_is;
  drawn = subst (λ (b : Bool). IsDrawn old.size number event mark saved b (stage_of old) (stage_of new) taken.row) (sym chosen)
      (drawn_is old.size number event mark saved (stage_of old) (stage_of new) taken.row e taken.is);
  events = taken.events;
}

-- one that isn't
pub left_out : (is : Bool) (number : ℕ) (event : Event) (mark : Mark) (saved : List Record) (old new : Canvas) → is_skipped mark ≡ false → is ≡ false
    → FollowAll event mark saved old.columns.items new.columns.items → length new.columns.items ≡ length old.columns.items
    → new ≡ record old { columns = new.columns } → DrawsIf is number event mark saved old new
left_out is number event mark saved old new e chosen follow count rest = record {
  row = [];
  size_is = ap (λ (c : Canvas). c.size) rest;
  drawn = subst (λ (b : Bool). IsDrawn old.size number event mark saved b (stage_of old) (stage_of new) []) (sym chosen)
      (left_is old.size number event mark saved (stage_of old) (stage_of new) [] e
      (record { follow = follow; count = count; stays = ap (λ (c : Canvas). c.rows) rest; no_row = refl }));
  events = subst (λ (d : Drawing). Grows old.events d []) (sym (ap (λ (c : Canvas). c.events) rest)) (unchanged old.events [] refl);
}

-- what stands in a list with one more at its end
at_end : (xs : List Column) (x : Column) (k : ℕ) (y : Column) → slice_get (xs ++ x ∷ []) k ≡ Some y → (slice_get xs k ≡ Some y) ⊎ ((k ≡ length xs) × (y ≡ x))
at_end [] x zero y h = let same : x ≡ y = some_same x y h in inr (refl, sym same)
at_end [] x (suc k) y h = let no : None ≡ Some y = h in absurd (cc)
at_end (z ∷ xs) x zero y h = inl h
at_end (z ∷ xs) x (suc k) y h = elim (at_end xs x k y h) [ inl a ↦ inl a | inr b ↦ inr (ap suc b.0, b.1) ]

-- one new member more
pub new_more : (n members : ℕ) (liars : List ℕ) (old : List Column) (column : Column) → AreNew n members liars old
    → IsNew n (list_any (λ liar. liar == members) liars) column → AreNew n (members + 1) liars (old ++ column ∷ [])
new_more n members liars old column are is = record {
  count = length-append old (column ∷ []) ∙ ap (λ k. k + 1) are.count;
  each = λ k it found. elim (at_end old column k it found) [
    | inl there ↦ are.each k it there
    | inr last ↦ subst (λ (v : Column). IsNew n (list_any (λ liar. liar == k) liars) v) (sym last.1)
        (subst (λ i. IsNew n (list_any (λ liar. liar == i) liars) column) (sym (last.0 ∙ are.count)) is)
  ];
}

-- how far the rows have come after so many events: those that are drawn are written
pub record IsFar (size : Size) (liars : List ℕ) (events : List Event) (marks : List Mark) (saved : List (Vec Record)) (chosen : List Bool) (index : ℕ) (canvas : Canvas) (before now : Option (List ℕ)) : Type 0 where
  pub first : List Column
  pub rows : List Element
  pub begins : AreNew size.n size.n liars first
  pub size_is : canvas.size ≡ size
  pub few : canvas.rows ≤ index
  pub rest : string_bytes canvas.events.text ≡ []
  pub written : Appends before now (picture_text (heads size.n first 24 ++ rows))
  pub onward : (last : Stage) (others : List Element)
      → AreDrawn size (index + 1) (drop index events) (drop index marks) (drop index saved) (drop index chosen) (stage_of canvas) last others
      → AreDrawn size 1 events marks saved chosen (record { columns = first; row = 0 }) last (rows ++ others)

-- before the first event, once the heads are written
pub far_begun : (size : Size) (liars : List ℕ) (events : List Event) (marks : List Mark) (saved : List (Vec Record)) (chosen : List Bool) (begun canvas : Canvas) (before now : Option (List ℕ))
    → IsBegun size liars begun → DrawsOnly begun canvas → string_bytes canvas.events.text ≡ [] → Appends before now (string_bytes begun.events.text)
    → IsFar size liars events marks saved chosen 0 canvas before now
far_begun size liars events marks saved chosen begun canvas before now is only rest written =
    let columns : canvas.columns.items ≡ begun.columns.items = ap (λ (c : Canvas). c.columns.items) only in
    let row : canvas.rows ≡ 0 = ap (λ (c : Canvas). c.rows) only ∙ is.no_row in
    record {
      first = begun.columns.items;
      rows = [];
      begins = is.members;
      size_is = ap (λ (c : Canvas). c.size) only ∙ is.size_is;
      few = omega (arith, row);
      rest = rest;
      written = subst (λ (t : List ℕ). Appends before now t) (is.heads_stand ∙ ap picture_text (sym (append-nil (heads size.n begun.columns.items 24)))) written;
      onward = λ last others drawn.
          subst (λ (l : List Column). AreDrawn size 1 events marks saved chosen (record { columns = l; row = 0 }) last others) columns
          (subst (λ k. AreDrawn size 1 events marks saved chosen (record { columns = canvas.columns.items; row = k }) last others) row drawn);
    }

rows_few : (size : Size) (number : ℕ) (event : Event) (mark : Mark) (saved : List Record) (is : Bool) (old new : Stage) (row : List Element)
    → IsDrawn size number event mark saved is old new row → new.row ≤ old.row + 1
rows_few size number event Done saved true old new row h = let e = h.below in omega (arith, e)
rows_few size number event Done saved false old new row h = let e = h.stays in omega (arith, e)
rows_few size number event Failed saved true old new row h = let e = h.below in omega (arith, e)
rows_few size number event Failed saved false old new row h = let e = h.stays in omega (arith, e)
rows_few size number event (Skipped reason) saved is old new row h = let e = ap (λ (s : Stage). s.row) h.stage in omega (arith, e)

-- one event more
pub far_on : (size : Size) (liars : List ℕ) (events : List Event) (marks : List Mark) (saved : List (Vec Record)) (chosen : List Bool) (i : ℕ) (old drawn new : Canvas) (before middle now : Option (List ℕ))
    (event : Event) (mark : Mark) (records : Vec Record) (kept : List Record) (is : Bool) → kept ≡ records.items → IsFar size liars events marks saved chosen i old before middle
    → DrawsIf is (i + 1) event mark kept old drawn
    → DrawsOnly drawn new → string_bytes new.events.text ≡ [] → Appends middle now (string_bytes drawn.events.text)
    → drop i events ≡ event ∷ drop (i + 1) events → drop i marks ≡ mark ∷ drop (i + 1) marks → drop i saved ≡ records ∷ drop (i + 1) saved
    → drop i chosen ≡ is ∷ drop (i + 1) chosen → IsFar size liars events marks saved chosen (i + 1) new before now
far_on size liars events marks saved chosen i old drawn new before middle now event mark records kept is same far passes only rest written a b d f =
    let stage : stage_of new ≡ stage_of drawn = λ t. record { columns = (only t).columns.items; row = (only t).rows } in
    let here_drawn : IsDrawn size (i + 1) event mark records.items is (stage_of old) (stage_of drawn) passes.row =
    subst (λ (s : Size). IsDrawn s (i + 1) event mark records.items is (stage_of old) (stage_of drawn) passes.row) far.size_is
    (subst (λ (l : List Record). IsDrawn old.size (i + 1) event mark l is (stage_of old) (stage_of drawn) passes.row) same passes.drawn) in
    let most : drawn.rows ≤ old.rows + 1 = rows_few size (i + 1) event mark records.items is (stage_of old) (stage_of drawn) passes.row here_drawn in
    let rows : new.rows ≡ drawn.rows = ap (λ (c : Canvas). c.rows) only in
    let head = heads size.n far.first 24 in
    let row : string_bytes drawn.events.text ≡ picture_text passes.row = passes.events ∙ ap (λ (t : List ℕ). t ++ picture_text passes.row) far.rest in
    record {
      first = far.first;
      rows = far.rows ++ passes.row;
      begins = far.begins;
      size_is = ap (λ (c : Canvas). c.size) only ∙ passes.size_is ∙ far.size_is;
      few = omega (arith, most, far.few, rows);
      rest = rest;
      written = subst (λ (t : List ℕ). Appends before now t)
          (ap (λ (t : List ℕ). picture_text (head ++ far.rows) ++ t) row ∙ sym (flat_map-append element_text (head ++ far.rows) passes.row)
          ∙ ap picture_text (append_assoc head far.rows passes.row))
          (Appends-trans before middle now (picture_text (head ++ far.rows)) (string_bytes drawn.events.text) far.written written);
      onward = λ last others drawn_on.
          let here : AreDrawn size (i + 1) (event ∷ drop (i + 1) events) (mark ∷ drop (i + 1) marks) (records ∷ drop (i + 1) saved) (is ∷ drop (i + 1) chosen) (stage_of old) last
          (passes.row ++ others) = (
            stage_of drawn,
            passes.row,
            others,
            here_drawn,
            subst (λ (s : Stage). AreDrawn size (i + 1 + 1) (drop (i + 1) events) (drop (i + 1) marks) (drop (i + 1) saved) (drop (i + 1) chosen) s last others) stage drawn_on,
            refl,
          ) in
          let there : AreDrawn size (i + 1) (drop i events) (drop i marks) (drop i saved) (drop i chosen) (stage_of old) last (passes.row ++ others) =
          subst (λ (l : List Bool). AreDrawn size (i + 1) (drop i events) (drop i marks) (drop i saved) l (stage_of old) last (passes.row ++ others)) (sym f)
          (subst (λ (l : List (Vec Record)). AreDrawn size (i + 1) (drop i events) (drop i marks) l (is ∷ drop (i + 1) chosen) (stage_of old) last (passes.row ++ others)) (sym d)
          (subst (λ (l : List Mark). AreDrawn size (i + 1) (drop i events) l (records ∷ drop (i + 1) saved) (is ∷ drop (i + 1) chosen) (stage_of old) last (passes.row ++ others)) (sym b)
          (subst (λ (l : List Event). AreDrawn size (i + 1) l (mark ∷ drop (i + 1) marks) (records ∷ drop (i + 1) saved) (is ∷ drop (i + 1) chosen) (stage_of old) last (passes.row ++ others)) (sym a)
          here))) in
          subst (λ (l : List Element). AreDrawn size 1 events marks saved chosen (record { columns = far.first; row = 0 }) last l)
          (sym (append_assoc far.rows passes.row others)) (far.onward last (passes.row ++ others) there);
    }

no_marks : (size : Size) (number : ℕ) (events : List Event) (saved : List (Vec Record)) (chosen : List Bool) (stage : Stage) → AreDrawn size number events [] saved chosen stage stage []
no_marks size number [] saved chosen stage = (refl, refl)
no_marks size number (e ∷ events) saved chosen stage = (refl, refl)

no_saved : (size : Size) (number : ℕ) (events : List Event) (marks : List Mark) (chosen : List Bool) (stage : Stage) → AreDrawn size number events marks [] chosen stage stage []
no_saved size number [] marks chosen stage = (refl, refl)
no_saved size number (e ∷ events) [] chosen stage = (refl, refl)
no_saved size number (e ∷ events) (m ∷ marks) chosen stage = (refl, refl)

no_chosen : (size : Size) (number : ℕ) (events : List Event) (marks : List Mark) (saved : List (Vec Record)) (stage : Stage) → AreDrawn size number events marks saved [] stage stage []
no_chosen size number [] marks saved stage = (refl, refl)
no_chosen size number (e ∷ events) [] saved stage = (refl, refl)
no_chosen size number (e ∷ events) (m ∷ marks) [] stage = (refl, refl)
no_chosen size number (e ∷ events) (m ∷ marks) (r ∷ saved) stage = (refl, refl)

-- behind the shortest list nothing is drawn
none_left : (size : Size) (number k : ℕ) (events : List Event) (marks : List Mark) (saved : List (Vec Record)) (chosen : List Bool) (stage : Stage)
    → (length events ≤ k) ⊎ ((length marks ≤ k) ⊎ ((length saved ≤ k) ⊎ (length chosen ≤ k)))
    → AreDrawn size number (drop k events) (drop k marks) (drop k saved) (drop k chosen) stage stage []
none_left size number k events marks saved chosen stage (inl h) =
    subst (λ (l : List Event). AreDrawn size number l (drop k marks) (drop k saved) (drop k chosen) stage stage []) (sym (drop_of_length-le events h)) (refl, refl)
none_left size number k events marks saved chosen stage (inr (inl h)) =
    subst (λ (l : List Mark). AreDrawn size number (drop k events) l (drop k saved) (drop k chosen) stage stage []) (sym (drop_of_length-le marks h))
    (no_marks size number (drop k events) (drop k saved) (drop k chosen) stage)
none_left size number k events marks saved chosen stage (inr (inr (inl h))) =
    subst (λ (l : List (Vec Record)). AreDrawn size number (drop k events) (drop k marks) l (drop k chosen) stage stage []) (sym (drop_of_length-le saved h))
    (no_saved size number (drop k events) (drop k marks) (drop k chosen) stage)
none_left size number k events marks saved chosen stage (inr (inr (inr h))) =
    subst (λ (l : List Bool). AreDrawn size number (drop k events) (drop k marks) (drop k saved) l stage stage []) (sym (drop_of_length-le chosen h))
    (no_chosen size number (drop k events) (drop k marks) (drop k saved) stage)

-- all rows are written
pub far_done : (size : Size) (liars : List ℕ) (events : List Event) (marks : List Mark) (saved : List (Vec Record)) (chosen : List Bool) (i : ℕ) (canvas : Canvas) (before now : Option (List ℕ))
    → IsFar size liars events marks saved chosen i canvas before now → (length events ≤ i) ⊎ ((length marks ≤ i) ⊎ ((length saved ≤ i) ⊎ (length chosen ≤ i)))
    → (rows : List ℕ) × AreRows size liars events marks saved chosen rows × Appends before now rows
far_done size liars events marks saved chosen i canvas before now far ended =
    let start : Stage = record { columns = far.first; row = 0 } in
    let drawn = far.onward (stage_of canvas) [] (none_left size (i + 1) i events marks saved chosen (stage_of canvas) ended) in (
      picture_text (heads size.n far.first 24 ++ far.rows),
      record {
        first = far.first;
        last = stage_of canvas;
        rows = far.rows;
        begins = far.begins;
        drawn = subst (λ (l : List Element). AreDrawn size 1 events marks saved chosen start (stage_of canvas) l) (append-nil far.rows) drawn;
        is = refl;
      },
      far.written,
    )

-- a number below the least of three
pub below_least : {A : Type 0} (xs : List A) (b c count k : ℕ) → count ≡ min (min (length xs) b) c → k < length (take count xs)
    → (k < length xs) × (k < b) × (k < c) × (k < count)
below_least xs b c count k e h =
    let within : count ≤ length xs = omega (arith, e, min-le_left (min (length xs) b) c, min-le_left (length xs) b) in
    let second : count ≤ b = omega (arith, e, min-le_left (min (length xs) b) c, min-le_right (length xs) b) in
    let third : count ≤ c = omega (arith, e, min-le_right (min (length xs) b) c) in
    let long : length (take count xs) ≡ count = length-take-le count xs within in
    (omega (arith, long, h, within), omega (arith, long, h, second), omega (arith, long, h, third), omega (arith, long, h))

-- a number below the least of four
pub below_four : {A : Type 0} (xs : List A) (b c d count k : ℕ) → count ≡ min (min (min (length xs) b) c) d → k < length (take count xs)
    → (k < length xs) × (k < b) × (k < c) × (k < d) × (k < count)
below_four xs b c d count k e h =
    let three : count ≤ min (min (length xs) b) c = omega (arith, e, min-le_left (min (min (length xs) b) c) d) in
    let within : count ≤ length xs = omega (arith, three, min-le_left (min (length xs) b) c, min-le_left (length xs) b) in
    let second : count ≤ b = omega (arith, three, min-le_left (min (length xs) b) c, min-le_right (length xs) b) in
    let third : count ≤ c = omega (arith, three, min-le_right (min (length xs) b) c) in
    let fourth : count ≤ d = omega (arith, e, min-le_right (min (min (length xs) b) c) d) in
    let long : length (take count xs) ≡ count = length-take-le count xs within in (
      omega (arith, long, h, within),
      omega (arith, long, h, second),
      omega (arith, long, h, third),
      omega (arith, long, h, fourth),
      omega (arith, long, h),
    )

-- what is left, with its first item by another name
pub next_is : {A : Type 0} (xs : List A) (i : ℕ) (d x : A) → i < length xs → x ≡ get_or xs i d → drop i xs ≡ x ∷ drop (i + 1) xs
next_is {A} xs i d x within is = drop_more xs i d within ∙ ap (λ (y : A). y ∷ drop (i + 1) xs) (sym is)
