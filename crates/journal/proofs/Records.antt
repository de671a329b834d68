-- The bytes of a record, there and back.
use Rattle.std.proofs.Common.{◌≡◌, ◌≢◌, ℕ, ◌+◌, ◌*◌, ◌/◌, ◌%◌, ◌<◌, Bool, List, [], ◌∷◌, ◌++◌, length, get_or, Option, Some, None, refl, sym, ◌∙◌, ap, arith, IfSome}
use Rattle.std.proofs.lemmas.Nat.{be_bytes_2, from_be_bytes-to_be_bytes_2}
use Rattle.std.specs.Int.{w16, to_be_bytes, from_be_bytes}
use Rattle.terms_prelude.specs.Terms.{Kind, Initial, Echo, Ready, Value, Zero, One, SureZero, SureOne, Unsure, Statement, Place, Record, Said, Decided, Header, IsSize, new_place, value_code}
use Rattle.journal.specs.Words.{bit_byte, record_bytes, IsStatementFor, IsDecisionFor, IsWellFormedFor, HasBytes}
use Rattle.statement_codec.specs.Statements.{kind_byte}
use Rattle.journal.proofs.Headers.{two_fit}

-- what has P has Q
pub if_some_more : {X : Type 0} (P Q : X → Type 0) → ((x : X) → P x → Q x) → (o : Option X) → IfSome o P → IfSome o Q
if_some_more P Q more None has = tt
if_some_more P Q more (Some x) has = more x has

-- six bytes one by one
six : (b : List ℕ) → length b ≡ 6 → b ≡ get_or b 0 0 ∷ get_or b 1 0 ∷ get_or b 2 0 ∷ get_or b 3 0 ∷ get_or b 4 0 ∷ get_or b 5 0 ∷ []
six [] long = absurd (omega (arith, long))
six (b0 ∷ []) long = absurd (omega (arith, long))
six (b0 ∷ b1 ∷ []) long = absurd (omega (arith, long))
six (b0 ∷ b1 ∷ b2 ∷ []) long = absurd (omega (arith, long))
six (b0 ∷ b1 ∷ b2 ∷ b3 ∷ []) long = absurd (omega (arith, long))
six (b0 ∷ b1 ∷ b2 ∷ b3 ∷ b4 ∷ []) long = absurd (omega (arith, long))
six (b0 ∷ b1 ∷ b2 ∷ b3 ∷ b4 ∷ b5 ∷ []) long = refl
six (b0 ∷ b1 ∷ b2 ∷ b3 ∷ b4 ∷ b5 ∷ b6 ∷ b) long = absurd (omega (arith, long))

-- the question that the second and the third byte are
abbrev pub asked : List ℕ → ℕ
asked b = from_be_bytes w16 (get_or b 1 0 ∷ get_or b 2 0 ∷ [])

-- the step and the value of the last byte
abbrev pub step_in : List ℕ → ℕ
step_in b = get_or b 5 0 / 16

abbrev pub value_in : List ℕ → ℕ
value_in b = get_or b 5 0 % 16

-- a value takes four bits
pub code_small : (v : Value) → value_code v < 16
code_small Zero = omega arith
code_small One = omega arith
code_small SureZero = omega arith
code_small SureOne = omega arith
code_small Unsure = omega arith

-- a kind's byte is that of no decision
pub kind_below : (k : Kind) → kind_byte k ≢ 4
kind_below Initial e = cc e
kind_below Echo e = cc e
kind_below Ready e = cc e

module _ (b : List ℕ) (long : length b ≡ 6) (fits : (i : ℕ) → get_or b i 0 < 256) where
  high_low : to_be_bytes w16 (asked b) ≡ get_or b 1 0 ∷ get_or b 2 0 ∷ []
  high_low = be_bytes_2 (get_or b 1 0 ∷ get_or b 2 0 ∷ []) (asked b) refl (two_fit _ _ (fits 1) (fits 2)) refl

  -- the statement that has these bytes
  pub said_from : (s : Statement) → HasBytes s (get_or b 0 0) (asked b) (get_or b 3 0) (get_or b 4 0) (step_in b) (value_in b) → b ≡ record_bytes (Said s)
  unfolding record_bytes
  said_from s has =
      let last : get_or b 5 0 ≡ 16 * step_in b + value_code s.value = omega (arith, has.value_is) in
      six b long
      ∙ (λ i. sym has.kind_is i ∷ (sym high_low i ++ get_or b 3 0 ∷ get_or b 4 0 ∷ last i ∷ []))
      ∙ ap (λ (p : Place). kind_byte s.kind ∷ (to_be_bytes w16 p.question ++ p.origin ∷ p.round ∷ (16 * p.step + value_code s.value) ∷ [])) (sym has.place_is)

  -- the decision that has these bytes
  pub decided_from : (bit : Bool) → get_or b 0 0 ≡ 4 → get_or b 3 0 ≡ 0 → get_or b 5 0 ≡ bit_byte bit → b ≡ record_bytes (Decided (asked b) (get_or b 4 0) bit)
  unfolding record_bytes
  decided_from bit four zero_origin is =
      six b long ∙ (λ i. four i ∷ (sym high_low i ++ zero_origin i ∷ get_or b 4 0 ∷ is i ∷ []))

-- the bytes that a statement has
pub said_back : (b : List ℕ) (h : Header) (s : Statement) → IsSize h.size → IsStatementFor h s → b ≡ record_bytes (Said s) → HasBytes s (get_or b 0 0) (asked b) (get_or b 3 0) (get_or b 4 0) (step_in b) (value_in b)
unfolding record_bytes
said_back b h s size is same =
    let two : get_or b 1 0 ∷ get_or b 2 0 ∷ [] ≡ to_be_bytes w16 s.place.question = ap (λ (l : List ℕ). get_or l 1 0 ∷ get_or l 2 0 ∷ []) same in
    let question : asked b ≡ s.place.question = ap (λ (l : List ℕ). from_be_bytes w16 l) two ∙ from_be_bytes-to_be_bytes_2 s.place.question (omega (arith, size.few, is.fits.question)) in
    let origin : get_or b 3 0 ≡ s.place.origin = ap (λ (l : List ℕ). get_or l 3 0) same in
    let round : get_or b 4 0 ≡ s.place.round = ap (λ (l : List ℕ). get_or l 4 0) same in
    let last : get_or b 5 0 ≡ 16 * s.place.step + value_code s.value = ap (λ (l : List ℕ). get_or l 5 0) same in
    let step : step_in b ≡ s.place.step = omega (arith, last, code_small s.value) in
    let value : value_in b ≡ value_code s.value = omega (arith, last, code_small s.value) in
    record {
      kind_is = sym (ap (λ (l : List ℕ). get_or l 0 0) same);
      place_is = λ i. new_place (sym question i) (sym origin i) (sym round i) (sym step i);
      value_is = sym value;
    }

-- and a decision
pub record DecidedBytes (b : List ℕ) (question round : ℕ) (bit : Bool) : Type 0 where
  pub kind_is : get_or b 0 0 ≡ 4
  pub question_is : asked b ≡ question
  pub origin_is : get_or b 3 0 ≡ 0
  pub round_is : get_or b 4 0 ≡ round
  pub bit_is : get_or b 5 0 ≡ bit_byte bit

pub decided_back : (b : List ℕ) (h : Header) (question round : ℕ) (bit : Bool) → IsSize h.size → IsDecisionFor h question round → b ≡ record_bytes (Decided question round bit) → DecidedBytes b question round bit
unfolding record_bytes
decided_back b h question round bit size is same =
    let two : get_or b 1 0 ∷ get_or b 2 0 ∷ [] ≡ to_be_bytes w16 question = ap (λ (l : List ℕ). get_or l 1 0 ∷ get_or l 2 0 ∷ []) same in
    record {
      kind_is = ap (λ (l : List ℕ). get_or l 0 0) same;
      question_is = ap (λ (l : List ℕ). from_be_bytes w16 l) two ∙ from_be_bytes-to_be_bytes_2 question (omega (arith, size.few, is.asked));
      origin_is = ap (λ (l : List ℕ). get_or l 3 0) same;
      round_is = ap (λ (l : List ℕ). get_or l 4 0) same;
      bit_is = ap (λ (l : List ℕ). get_or l 5 0) same;
    }

-- no record has these bytes where neither a statement nor a decision has
pub no_record : (b : List ℕ) (h : Header) → IsSize h.size → ((s : Statement) → IsStatementFor h s → HasBytes s (get_or b 0 0) (asked b) (get_or b 3 0) (get_or b 4 0) (step_in b) (value_in b) → ⊥)
    → ((question round : ℕ) (bit : Bool) → IsDecisionFor h question round → DecidedBytes b question round bit → ⊥) → (r : Record) → IsWellFormedFor h r → b ≢ record_bytes r
no_record b h size no_said no_decided (Said s) is same = no_said s is (said_back b h s size is same)
no_record b h size no_said no_decided (Decided question round bit) is same =
    no_decided question round bit is (decided_back b h question round bit size is same)
