-- The seven bytes of a statement and of a record, there and back.
use Rattle.std.proofs.Common.{◌≡◌, ◌≢◌, ℕ, zero, suc, ◌<◌, ◌≤◌, ◌==◌, Bool, false, List, [], ◌∷◌, ◌++◌, length, get_or, refl, sym, ◌∙◌, ap, subst, arith}
use Rattle.std.proofs.lemmas.List.{take_rest}
use Rattle.std.proofs.lemmas.Nat.{be_bytes_2}
use Rattle.std.specs.Int.{w16, to_be_bytes, from_be_bytes}
use Rattle.std.specs.List.{flat_map, AllByRecursion}
use Rattle.terms_prelude.specs.Terms.{Kind, Initial, Echo, Ready, Value, Statement, Record, Said, Decided, IsPlace, FitsStep, new_place, new_statement, value_code}
use Rattle.statement_codec.specs.Statements.{kind_byte, statement_bytes, value_from}
use Rattle.statement_codec.proofs.Statements.{value_again}
use Rattle.journal.proofs.Headers.{two_fit}
use Rattle.engine.specs.Texts.{bit_byte, record_bytes, saying_bytes, IsStatement, IsRecord, IsSaying, NoStatement, NoRecord}
use Rattle.engine.proofs.Rows.{past}

-- the first seven bytes
abbrev pub seven_of : List ℕ → List ℕ
seven_of rest =
    get_or rest 0 0 ∷ get_or rest 1 0 ∷ get_or rest 2 0 ∷ get_or rest 3 0 ∷ get_or rest 4 0 ∷ get_or rest 5 0 ∷ get_or rest 6 0 ∷ []

pub split_seven : (rest : List ℕ) → 7 ≤ length rest → rest ≡ seven_of rest ++ past 7 rest
split_seven [] long = absurd (omega arith)
split_seven (a ∷ []) long = absurd (omega arith)
split_seven (a ∷ b ∷ []) long = absurd (omega arith)
split_seven (a ∷ b ∷ c ∷ []) long = absurd (omega arith)
split_seven (a ∷ b ∷ c ∷ d ∷ []) long = absurd (omega arith)
split_seven (a ∷ b ∷ c ∷ d ∷ e ∷ []) long = absurd (omega arith)
split_seven (a ∷ b ∷ c ∷ d ∷ e ∷ f ∷ []) long = absurd (omega arith)
split_seven (a ∷ b ∷ c ∷ d ∷ e ∷ f ∷ g ∷ rest) long =
    ap (λ (l : List ℕ). a ∷ b ∷ c ∷ d ∷ e ∷ f ∷ g ∷ l) (sym (take_rest (a ∷ b ∷ c ∷ d ∷ e ∷ f ∷ g ∷ rest) 7))

-- and the first eight, of which the last seven are a statement's
abbrev pub behind_one : List ℕ → List ℕ
behind_one rest =
    get_or rest 1 0 ∷ get_or rest 2 0 ∷ get_or rest 3 0 ∷ get_or rest 4 0 ∷ get_or rest 5 0 ∷ get_or rest 6 0 ∷ get_or rest 7 0 ∷ []

pub split_eight : (rest : List ℕ) → 8 ≤ length rest → rest ≡ (get_or rest 0 0 ∷ behind_one rest) ++ past 8 rest
split_eight [] long = absurd (omega arith)
split_eight (a ∷ []) long = absurd (omega arith)
split_eight (a ∷ b ∷ []) long = absurd (omega arith)
split_eight (a ∷ b ∷ c ∷ []) long = absurd (omega arith)
split_eight (a ∷ b ∷ c ∷ d ∷ []) long = absurd (omega arith)
split_eight (a ∷ b ∷ c ∷ d ∷ e ∷ []) long = absurd (omega arith)
split_eight (a ∷ b ∷ c ∷ d ∷ e ∷ f ∷ []) long = absurd (omega arith)
split_eight (a ∷ b ∷ c ∷ d ∷ e ∷ f ∷ g ∷ []) long = absurd (omega arith)
split_eight (a ∷ b ∷ c ∷ d ∷ e ∷ f ∷ g ∷ h ∷ rest) long =
    ap (λ (l : List ℕ). a ∷ b ∷ c ∷ d ∷ e ∷ f ∷ g ∷ h ∷ l) (sym (take_rest (a ∷ b ∷ c ∷ d ∷ e ∷ f ∷ g ∷ h ∷ rest) 8))

-- seven bytes one by one
seven : (b : List ℕ) → length b ≡ 7 → b ≡ seven_of b
seven [] long = absurd (omega (arith, long))
seven (b0 ∷ []) long = absurd (omega (arith, long))
seven (b0 ∷ b1 ∷ []) long = absurd (omega (arith, long))
seven (b0 ∷ b1 ∷ b2 ∷ []) long = absurd (omega (arith, long))
seven (b0 ∷ b1 ∷ b2 ∷ b3 ∷ []) long = absurd (omega (arith, long))
seven (b0 ∷ b1 ∷ b2 ∷ b3 ∷ b4 ∷ []) long = absurd (omega (arith, long))
seven (b0 ∷ b1 ∷ b2 ∷ b3 ∷ b4 ∷ b5 ∷ []) long = absurd (omega (arith, long))
seven (b0 ∷ b1 ∷ b2 ∷ b3 ∷ b4 ∷ b5 ∷ b6 ∷ []) long = refl
seven (b0 ∷ b1 ∷ b2 ∷ b3 ∷ b4 ∷ b5 ∷ b6 ∷ b7 ∷ b) long = absurd (omega (arith, long))

-- each has as many
pub length-record : (r : Record) → length (record_bytes r) ≡ 7
length-record (Said s) = refl
length-record (Decided question round bit) = refl

pub length-saying : (e : ℕ × Statement) → length (saying_bytes e) ≡ 8
length-saying e = refl

pub length-statement : (s : Statement) → length (statement_bytes s) ≡ 7
length-statement s = refl

-- the question that the second and the third byte are
abbrev pub asked : List ℕ → ℕ
asked b = from_be_bytes w16 (get_or b 1 0 ∷ get_or b 2 0 ∷ [])

-- a kind's byte is that of no decision
kind_below : (k : Kind) → kind_byte k ≢ 4
kind_below Initial e = cc e
kind_below Echo e = cc e
kind_below Ready e = cc e

-- two values of one code are one
same_value : (v u : Value) → value_code v ≡ value_code u → v ≡ u
same_value v u same = sym (value_again v) ∙ ap (λ (n : ℕ). value_from n) same ∙ value_again u

module _ (b : List ℕ) (long : length b ≡ 7) (fits : (i : ℕ) → get_or b i 0 < 256) where
  high_low : to_be_bytes w16 (asked b) ≡ get_or b 1 0 ∷ get_or b 2 0 ∷ []
  high_low = be_bytes_2 (get_or b 1 0 ∷ get_or b 2 0 ∷ []) (asked b) refl (two_fit _ _ (fits 1) (fits 2)) refl

  -- the statement that has these bytes
  pub statement_from : (kind : Kind) (value : Value) (s : Statement) → kind_byte kind ≡ get_or b 0 0 → value_code value ≡ get_or b 6 0
      → s ≡ new_statement kind (new_place (asked b) (get_or b 3 0) (get_or b 4 0) (get_or b 5 0)) value → b ≡ statement_bytes s
  statement_from kind value s kind_is value_is is =
      seven b long
      ∙ (λ i. sym kind_is i ∷ (sym high_low i ++ get_or b 3 0 ∷ get_or b 4 0 ∷ get_or b 5 0 ∷ sym value_is i ∷ []))
      ∙ ap (λ (x : Statement). statement_bytes x) (sym is)

  -- the decision that has these bytes
  pub decision_from : (bit : Bool) → get_or b 0 0 ≡ 4 → get_or b 3 0 ≡ 0 → get_or b 5 0 ≡ 0 → get_or b 6 0 ≡ bit_byte bit → b ≡ record_bytes (Decided (asked b) (get_or b 4 0) bit)
  decision_from bit four origin_is step_is bit_is =
      seven b long ∙ (λ i. four i ∷ (sym high_low i ++ origin_is i ∷ get_or b 4 0 ∷ step_is i ∷ bit_is i ∷ []))

-- why bytes are no statement's
pub no_kind : (b : List ℕ) → ((k : Kind) → kind_byte k ≢ get_or b 0 0) → NoStatement b
no_kind b none s is same = none s.kind (sym (ap (λ (l : List ℕ). get_or l 0 0) same))

pub no_value : (b : List ℕ) → ((v : Value) → value_code v ≢ get_or b 6 0) → NoStatement b
no_value b none s is same = none s.value (sym (ap (λ (l : List ℕ). get_or l 6 0) same))

pub no_place : (b : List ℕ) (q o : ℕ) → (IsPlace (new_place q o (get_or b 4 0) (get_or b 5 0)) → ⊥) → NoStatement b
no_place b q o none s is same =
    let round : get_or b 4 0 ≡ s.place.round = ap (λ (l : List ℕ). get_or l 4 0) same in
    let step : get_or b 5 0 ≡ s.place.step = ap (λ (l : List ℕ). get_or l 5 0) same in
    none (record {
      from_one = subst (λ (n : ℕ). 1 ≤ n) (sym round) is.place.from_one;
      to_last = subst (λ (n : ℕ). n ≤ 32) (sym round) is.place.to_last;
      first = subst (λ (n : ℕ). 1 ≤ n) (sym step) is.place.first;
      third = subst (λ (n : ℕ). n ≤ 3) (sym step) is.place.third;
    })

pub no_fit : (b : List ℕ) (v : Value) → value_code v ≡ get_or b 6 0 → (FitsStep (get_or b 5 0) v → ⊥) → NoStatement b
no_fit b v code none s is same =
    let step : get_or b 5 0 ≡ s.place.step = ap (λ (l : List ℕ). get_or l 5 0) same in
    let value : s.value ≡ v = same_value s.value v (sym (ap (λ (l : List ℕ). get_or l 6 0) same) ∙ sym code) in
    none (subst (λ (n : ℕ). FitsStep n v) (sym step) (subst (λ (x : Value). FitsStep s.place.step x) value is.value))

-- why bytes are no record's
pub no_said : (b : List ℕ) → get_or b 0 0 ≢ 4 → NoStatement b → NoRecord b
no_said b other none (Said s) is same = none s is same
no_said b other none (Decided question round bit) is same = other (ap (λ (l : List ℕ). get_or l 0 0) same)

-- a decision's bytes say so
pub record DecisionBytes (b : List ℕ) (round : ℕ) (bit : Bool) : Type 0 where
  pub origin_is : get_or b 3 0 ≡ 0
  pub round_is : get_or b 4 0 ≡ round
  pub step_is : get_or b 5 0 ≡ 0
  pub bit_is : get_or b 6 0 ≡ bit_byte bit

pub no_decision : (b : List ℕ) → get_or b 0 0 ≡ 4 → ((round : ℕ) (bit : Bool) → 1 ≤ round → round ≤ 32 → DecisionBytes b round bit → ⊥) → NoRecord b
no_decision b four none (Said s) is same = kind_below s.kind (sym (ap (λ (l : List ℕ). get_or l 0 0) same) ∙ four)
no_decision b four none (Decided question round bit) is same =
    none round bit is.0 is.1 (record {
      origin_is = ap (λ (l : List ℕ). get_or l 3 0) same;
      round_is = ap (λ (l : List ℕ). get_or l 4 0) same;
      step_is = ap (λ (l : List ℕ). get_or l 5 0) same;
      bit_is = ap (λ (l : List ℕ). get_or l 6 0) same;
    })

-- these records have been read, and that is left; and sayings
abbrev pub ReadRecords : List ℕ → List ℕ → List Record → Type 0
ReadRecords all rest now = AllByRecursion IsRecord now × (flat_map record_bytes now ++ rest ≡ all)

abbrev pub ReadSayings : List ℕ → List ℕ → List (ℕ × Statement) → Type 0
ReadSayings all rest now = AllByRecursion IsSaying now × (flat_map saying_bytes now ++ rest ≡ all)

abbrev pub ReadStatements : List ℕ → List ℕ → List Statement → Type 0
ReadStatements all rest now = AllByRecursion IsStatement now × (flat_map statement_bytes now ++ rest ≡ all)

-- seven bytes have a record's length
abbrev pub seven_some : 1 ≤ 7
seven_some = omega arith

abbrev pub eight_some : 1 ≤ 8
eight_some = omega arith

-- a byte that is no more than 1 is that of a bit
pub bit_of : (n : ℕ) → n ≤ 1 → n ≡ bit_byte (n == 1)
bit_of zero low = refl
bit_of (suc zero) low = refl
bit_of (suc (suc n)) low = absurd (omega (arith, low))

-- some are left where it isn't so that none is
pub some_left : (n : ℕ) → false ≡ (n == 0) → 1 ≤ n
some_left zero e = cc e
some_left (suc n) e = omega arith
