-- Cells by their spots: found, made, written, and numbered.
use Rattle.std.proofs.Common.{◌≡◌, ◌≢◌, inl, inr, ℕ, zero, suc, ◌+◌, ◌-◌, ◌<◌, ◌≤◌, Bool, true, false, ◌||◌, cond, eqb, Option, Some, None, List, [], ◌∷◌, ◌++◌, length, get_or, set, refl, sym, ◌∙◌, ap, subst, arith, eqb-true, eq-eqb, ne_eqb, get_or-set_same, get_or-set_other, length-append, length-set}
use Rattle.std.proofs.lemmas.Bool.{cases_eq, cases_lt, false≢true}
use Rattle.std.proofs.lemmas.List.{places}
use Rattle.std.proofs.lemmas.Map.Steps.{length-le_from_distinct_below}
use Rattle.std.specs.List.{AllByRecursion, IsDistinct, list_any, position_from}
use Rattle.rbc.specs.declared.rules.Known.{Known}
use Rattle.rbc.specs.declared.table.Cell.{Cell}
use Rattle.rbc.specs.Known.{no_known}
use Rattle.rbc.specs.Touching.{AreApart, AreNamed, IsAt, IsTable, no_cell, spot_at, touched_known, touched_made}

-- no two of them are of one spot
abbrev pub NoTwo : List Cell → Type 0
NoTwo cells = (j k : ℕ) → j < k → k < length cells → spot_at cells j ≢ spot_at cells k

later : (c : Cell) (cells : List Cell) → NoTwo (c ∷ cells) → NoTwo cells
later c cells none j k lt within = none (suc j) (suc k) (omega (arith, lt)) (omega (arith, within))

-- a cell is its spot's: what it says is known
pub known_at : (cells : List Cell) (number spot : ℕ) → NoTwo cells → IsAt cells number spot → touched_known cells spot ≡ (get_or cells number no_cell).known
known_at [] number spot none at = absurd (omega (arith, at.within))
known_at (c ∷ cells) zero spot none at = ap (λ b. cond b c.known (touched_known cells spot)) (eq-eqb c.spot spot at.is)
known_at (c ∷ cells) (suc number) spot none at =
    let other : c.spot ≢ spot = λ same. none 0 (suc number) (omega arith) at.within (same ∙ sym at.is) in
    ap (λ b. cond b c.known (touched_known cells spot)) (ne_eqb c.spot spot other)
    ∙ known_at cells number spot (later c cells none) (record { within = omega (arith, at.within); is = at.is })

-- a spot that has no cell
pub nothing_at : (cells : List Cell) (spot : ℕ) → touched_made cells spot ≡ false → touched_known cells spot ≡ no_known
nothing_at [] spot none = refl
nothing_at (c ∷ cells) spot none = step (nothing_at cells spot) (eqb c.spot spot) none
  where
    step : (touched_made cells spot ≡ false → touched_known cells spot ≡ no_known) → (b : Bool) → (b || touched_made cells spot) ≡ false
        → cond b c.known (touched_known cells spot) ≡ no_known
    step more true e = absurd (false≢true (sym e))
    step more false e = more e

-- a spot that has one
pub at_some : (cells : List Cell) (spot : ℕ) → touched_made cells spot ≡ true → (number : ℕ) × IsAt cells number spot
at_some [] spot made = absurd (false≢true made)
at_some (c ∷ cells) spot made = step (at_some cells spot) (eqb c.spot spot) refl made
  where
    step : (touched_made cells spot ≡ true → (number : ℕ) × IsAt cells number spot) → (b : Bool) → eqb c.spot spot ≡ b
        → (b || touched_made cells spot) ≡ true → (number : ℕ) × IsAt (c ∷ cells) number spot
    step more true e made = (0, record { within = omega arith; is = eqb-true c.spot spot e })
    step more false e made = let at = more made in (suc at.0, record { within = omega (arith, at.1.within); is = at.1.is })

pub made_at : (cells : List Cell) (number spot : ℕ) → IsAt cells number spot → touched_made cells spot ≡ true
made_at [] number spot at = absurd (omega (arith, at.within))
made_at (c ∷ cells) zero spot at = ap (λ b. b || touched_made cells spot) (eq-eqb c.spot spot at.is)
made_at (c ∷ cells) (suc number) spot at =
    step (made_at cells number spot (record { within = omega (arith, at.within); is = at.is })) (eqb c.spot spot)
  where
    step : touched_made cells spot ≡ true → (b : Bool) → (b || touched_made cells spot) ≡ true
    step more true = refl
    step more false = more

-- what a search from a place on finds
abbrev pub Found : List Cell → ℕ → ℕ → Option ℕ → Type 0
Found cells from spot (Some number) = (from ≤ number) × IsAt cells (number - from) spot
Found cells from spot None = touched_made cells spot ≡ false

pub found : (cells : List Cell) (from spot : ℕ) → Found cells from spot (position_from (λ c. eqb c.spot spot) from cells)
found [] from spot = refl
found (c ∷ cells) from spot = step (found cells (from + 1) spot) (eqb c.spot spot) refl
  where
    more : (result : Option ℕ) → eqb c.spot spot ≡ false → Found cells (from + 1) spot result → Found (c ∷ cells) from spot result
    more (Some number) e f = (
      omega (arith, f.0),
      record {
        within = omega (arith, f.0, f.1.within);
        is = let next : number - from ≡ suc (number - (from + 1)) = omega (arith, f.0) in ap (λ (n : ℕ). spot_at (c ∷ cells) n) next ∙ f.1.is;
      },
    )
    more None e f = ap (λ b. b || touched_made cells spot) e ∙ f

    step : Found cells (from + 1) spot (position_from (λ c. eqb c.spot spot) (from + 1) cells) → (b : Bool) → eqb c.spot spot ≡ b
        → Found (c ∷ cells) from spot (cond b (Some from) (position_from (λ c. eqb c.spot spot) (from + 1) cells))
    step behind true e = (
      omega arith,
      record {
        within = omega arith;
        is = let here : from - from ≡ 0 = omega arith in ap (λ (n : ℕ). spot_at (c ∷ cells) n) here ∙ eqb-true c.spot spot e;
      },
    )
    step behind false e = more (position_from (λ c. eqb c.spot spot) (from + 1) cells) e behind

-- among the spots that have numbers, one whose number is of another's cell has none
pub unnamed : (numbers : List ℕ) (cells : List Cell) (spot : ℕ) → IsTable numbers cells → spot < length numbers
    → (IsAt cells (get_or numbers spot 0) spot → ⊥) → touched_made cells spot ≡ false
unnamed numbers cells spot table within other = step (touched_made cells spot) refl
  where
    step : (b : Bool) → touched_made cells spot ≡ b → b ≡ false
    step false e = refl
    step true e =
        let at = at_some cells spot e in
        let number : get_or numbers (spot_at cells at.0) 0 ≡ at.0 = table.named at.0 at.1.within (subst (λ s. s < length numbers) (sym at.1.is) within) in
        let its : get_or numbers spot 0 ≡ at.0 = ap (λ s. get_or numbers s 0) (sym at.1.is) ∙ number in
        absurd (other (subst (λ k. IsAt cells k spot) (sym its) at.1))

-- one more cell, of which nothing is known: no spot is known otherwise
pub same_with : (cells : List Cell) (spot other : ℕ) → touched_known (cells ++ record { spot = spot; known = no_known } ∷ []) other ≡ touched_known cells other
same_with [] spot other = step (eqb spot other)
  where
    step : (b : Bool) → cond b no_known no_known ≡ no_known
    step true = refl
    step false = refl
same_with (c ∷ cells) spot other = ap (λ k. cond (eqb c.spot other) c.known k) (same_with cells spot other)

below_end : (cells : List Cell) (cell : Cell) (k : ℕ) → k < length cells → get_or (cells ++ cell ∷ []) k no_cell ≡ get_or cells k no_cell
below_end cells cell k lt = grind (arith, places)

at_end : (cells : List Cell) (cell : Cell) → get_or (cells ++ cell ∷ []) (length cells) no_cell ≡ cell
at_end [] cell = refl
at_end (c ∷ cells) cell = at_end cells cell

-- the cell that was added is its spot's
pub at_new : (cells : List Cell) (cell : Cell) → IsAt (cells ++ cell ∷ []) (length cells) cell.spot
at_new cells cell = record {
  within = omega (arith, length-append cells (cell ∷ []));
  is = ap (λ (c : Cell). c.spot) (at_end cells cell);
}

-- the cells with one more, of a spot that had none, and the numbers with its number
module _ (numbers : List ℕ) (cells : List Cell) (cell : Cell) (table : IsTable numbers cells) (few : cell.spot < 8000)
    (unmade : touched_made cells cell.spot ≡ false) where
  abbrev more : List Cell
  more = cells ++ cell ∷ []

  size : length more ≡ length cells + 1
  size = length-append cells (cell ∷ [])

  old_spot : (k : ℕ) → k < length cells → spot_at more k ≡ spot_at cells k
  old_spot k lt = ap (λ (c : Cell). c.spot) (below_end cells cell k lt)

  new_spot : (k : ℕ) → k ≡ length cells → spot_at more k ≡ cell.spot
  new_spot k is = ap (λ n. spot_at more n) is ∙ ap (λ (c : Cell). c.spot) (at_end cells cell)

  fresh : (k : ℕ) → k < length cells → spot_at cells k ≢ cell.spot
  fresh k lt same = false≢true (sym unmade ∙ made_at cells k cell.spot (record { within = lt; is = same }))

  still_apart : AreApart more
  still_apart = record {
    few = λ k lt. elim (cases_lt k (length cells)) [
      | inl below ↦ subst (λ s. s < 8000) (sym (old_spot k below)) (table.apart.few k below)
      | inr past ↦ subst (λ s. s < 8000) (sym (new_spot k (omega (arith, lt, past, size)))) few
    ];
    apart = λ j k lt within. elim (cases_lt k (length cells)) [
      | inl below ↦ λ same. table.apart.apart j k lt below (sym (old_spot j (omega (arith, lt, below))) ∙ same ∙ old_spot k below)
      | inr past ↦ λ same. fresh j (omega (arith, lt, within, size)) (sym (old_spot j (omega (arith, lt, within, size))) ∙ same ∙ new_spot k (omega (arith, within, past, size)))
    ];
  }

  pub table_with : IsTable (set numbers cell.spot (length cells)) more
  table_with = record {
    apart = still_apart;
    named = λ k lt within. let long : length (set numbers cell.spot (length cells)) ≡ length numbers = length-set numbers cell.spot (length cells) in
        elim (cases_lt k (length cells)) [
          | inl below ↦
              ap (λ s. get_or (set numbers cell.spot (length cells)) s 0) (old_spot k below)
              ∙ get_or-set_other numbers cell.spot (spot_at cells k) (length cells) 0 (fresh k below)
              ∙ table.named k below (omega (arith, within, long, old_spot k below))
          | inr past ↦
              let is : k ≡ length cells = omega (arith, lt, past, size) in
              ap (λ s. get_or (set numbers cell.spot (length cells)) s 0) (new_spot k is)
              ∙ get_or-set_same numbers cell.spot (length cells) 0 (omega (arith, within, long, new_spot k is))
              ∙ sym is
        ];
  }

-- a cell that is written anew, for its spot
written_spot : (cells : List Cell) (number k : ℕ) (cell : Cell) → IsAt cells number cell.spot → spot_at (set cells number cell) k ≡ spot_at cells k
written_spot cells number k cell at = elim (cases_eq k number) [
  | inl is ↦
      ap (λ n. spot_at (set cells number cell) n) is
      ∙ ap (λ (c : Cell). c.spot) (get_or-set_same cells number cell no_cell at.within)
      ∙ sym at.is ∙ ap (λ n. spot_at cells n) (sym is)
  | inr apart ↦ ap (λ (c : Cell). c.spot) (get_or-set_other cells number k cell no_cell apart)
]

pub table_written : (numbers : List ℕ) (cells : List Cell) (number : ℕ) (cell : Cell) → IsTable numbers cells → IsAt cells number cell.spot → IsTable numbers (set cells number cell)
table_written numbers cells number cell table at =
    let long : length (set cells number cell) ≡ length cells = length-set cells number cell in
    let same = λ (k : ℕ). written_spot cells number k cell at in
    record {
      apart = record {
        few = λ k lt. subst (λ s. s < 8000) (sym (same k)) (table.apart.few k (omega (arith, lt, long)));
        apart = λ j k lt within is. table.apart.apart j k lt (omega (arith, within, long)) (sym (same j) ∙ is ∙ same k);
      };
      named = λ k lt within.
          ap (λ s. get_or numbers s 0) (same k) ∙ table.named k (omega (arith, lt, long)) (subst (λ s. s < length numbers) (same k) within);
    }

known_written : (cells : List Cell) (number spot : ℕ) (known : Known) (other : ℕ) → NoTwo cells → IsAt cells number spot
    → touched_known (set cells number (record { spot = spot; known = known })) other ≡ cond (eqb other spot) known (touched_known cells other)
known_written [] number spot known other none at = absurd (omega (arith, at.within))
known_written (c ∷ cells) zero spot known other none at = elim (cases_eq other spot) [
  | inl is ↦
      ap (λ b. cond b known (touched_known cells other)) (eq-eqb spot other (sym is))
      ∙ ap (λ b. cond b known (touched_known (c ∷ cells) other)) (sym (eq-eqb other spot is))
  | inr apart ↦
      ap (λ b. cond b known (touched_known cells other)) (ne_eqb spot other (λ same. apart (sym same)))
      ∙ ap (λ b. cond b c.known (touched_known cells other)) (sym (ne_eqb c.spot other (λ same. apart (sym same ∙ at.is))))
      ∙ ap (λ b. cond b known (touched_known (c ∷ cells) other)) (sym (ne_eqb other spot apart))
]
known_written (c ∷ cells) (suc number) spot known other none at =
    let later_at : IsAt cells number spot = record { within = omega (arith, at.within); is = at.is } in
    let first : c.spot ≢ spot = λ same. none 0 (suc number) (omega arith) at.within (same ∙ sym at.is) in
    ap (λ k. cond (eqb c.spot other) c.known k) (known_written cells number spot known other (later c cells none) later_at)
    ∙ step (eqb c.spot other) refl (eqb other spot) refl first
  where
    step : (a : Bool) → eqb c.spot other ≡ a → (b : Bool) → eqb other spot ≡ b → c.spot ≢ spot
        → cond a c.known (cond b known (touched_known cells other)) ≡ cond b known (cond a c.known (touched_known cells other))
    step true e true f first = absurd (first (eqb-true c.spot other e ∙ eqb-true other spot f))
    step true e false f first = refl
    step false e true f first = refl
    step false e false f first = refl

-- the same where the cell's spot is only known to be this
pub tagged_written : (cells : List Cell) (number spot tag : ℕ) (known : Known) (other : ℕ) → NoTwo cells → IsAt cells number spot → tag ≡ spot
    → touched_known (set cells number (record { spot = tag; known = known })) other ≡ cond (eqb other spot) known (touched_known cells other)
tagged_written cells number spot tag known other none at same =
    ap (λ (t : ℕ). touched_known (set cells number (record { spot = t; known = known })) other) same
    ∙ known_written cells number spot known other none at

-- one cell more has its number
pub one_named : (numbers : List ℕ) (cells : List Cell) (k : ℕ) → AreApart cells → k < length cells → AreNamed numbers cells k → AreNamed (set numbers (spot_at cells k) k) cells (k + 1)
one_named numbers cells k apart lt named i below within =
    let long : length (set numbers (spot_at cells k) k) ≡ length numbers = length-set numbers (spot_at cells k) k in
    elim (cases_lt i k) [
      | inl before ↦
          get_or-set_other numbers (spot_at cells k) (spot_at cells i) k 0 (apart.apart i k before lt)
          ∙ named i before (omega (arith, within, long))
      | inr past ↦
          let is : i ≡ k = omega (arith, below, past) in
          ap (λ s. get_or (set numbers (spot_at cells k) k) s 0) (ap (λ n. spot_at cells n) is)
          ∙ get_or-set_same numbers (spot_at cells k) k 0 (omega (arith, within, long, ap (λ n. spot_at cells n) is))
          ∙ sym is
    ]

-- there are no more than 8,000
abbrev spots_of : List Cell → List ℕ
spots_of [] = []
spots_of (c ∷ cells) = c.spot ∷ spots_of cells

length-spots : (cells : List Cell) → length (spots_of cells) ≡ length cells
length-spots [] = refl
length-spots (c ∷ cells) = ap suc (length-spots cells)

none_of : (spot : ℕ) (cells : List Cell) → ((k : ℕ) → k < length cells → spot ≢ spot_at cells k) → AllByRecursion (λ y. eqb spot y ≡ false) (spots_of cells)
none_of spot [] other = tt
none_of spot (c ∷ cells) other = (ne_eqb spot c.spot (other 0 (omega arith)), none_of spot cells (λ k lt. other (suc k) (omega (arith, lt))))

distinct : (cells : List Cell) → NoTwo cells → IsDistinct eqb (spots_of cells)
unfolding IsDistinct
distinct [] none = tt
distinct (c ∷ cells) none = (none_of c.spot cells (λ k lt. none 0 (suc k) (omega arith) (omega (arith, lt))), distinct cells (later c cells none))

spot_below : (n : ℕ) (cells : List Cell) → ((k : ℕ) → k < length cells → spot_at cells k < n) → (q : ℕ) → list_any (eqb q) (spots_of cells) ≡ true → q < n
spot_below n [] below q any = absurd (false≢true any)
spot_below n (c ∷ cells) below q any =
    step (λ rest. spot_below n cells (λ k lt. below (suc k) (omega (arith, lt))) q rest) (eqb q c.spot) refl any
  where
    step : (list_any (eqb q) (spots_of cells) ≡ true → q < n) → (b : Bool) → eqb q c.spot ≡ b → (b || list_any (eqb q) (spots_of cells)) ≡ true → q < n
    step more true e any = subst (λ x. x < n) (sym (eqb-true q c.spot e)) (below 0 (omega arith))
    step more false e any = more any

pub few_cells : (cells : List Cell) → AreApart cells → length cells ≤ 8000
few_cells cells apart =
    omega (arith, length-spots cells, length-le_from_distinct_below (spots_of cells) 8000 (distinct cells apart.apart) (spot_below 8000 cells apart.few))

-- and there is room for one more where a spot has none
pub room_for : (numbers : List ℕ) (cells : List Cell) (cell : Cell) → IsTable numbers cells → cell.spot < 8000 → touched_made cells cell.spot ≡ false → length cells < 8000
room_for numbers cells cell table few unmade =
    omega (arith, few_cells (cells ++ cell ∷ []) (table_with numbers cells cell table few unmade).apart, length-append cells (cell ∷ []))
