-- A record of version 1 is one of version 2, but for its last two bytes, which are one there.
use Rattle.std.proofs.Common.{◌≡◌, ◌≢◌, ◌⊎◌, inl, inr, ℕ, zero, suc, ◌+◌, ◌*◌, ◌<◌, ◌≤◌, Bool, true, false, List, [], ◌∷◌, length, get_or, refl, sym, ◌∙◌, ap, arith}
use Rattle.std.proofs.lemmas.Bool.{cases_eq, cases_lt}
use Rattle.terms_prelude.specs.Terms.{Value, Record, Said, Decided, Header, IsSize, FitsStep, value_code}
use Rattle.journal.proofs.Records.{code_small}
use Rattle.journal.proofs.Six.{same_record as same_new}
use Rattle.journal.proofs.Spelled.{IsSpelling}
use Rattle.journal.proofs.Telling.{is_record}
use Rattle.migration.specs.Words.{bit_byte, record_bytes, old_record_bytes, version_1, IsWellFormedFor}
use Rattle.migration.proofs.OldTexts.{length-record_text}

-- the first five bytes, and one for the last two
abbrev pub renewed : List ℕ → List ℕ
renewed b =
    get_or b 0 0 ∷ get_or b 1 0 ∷ get_or b 2 0 ∷ get_or b 3 0 ∷ get_or b 4 0 ∷ (16 * get_or b 5 0 + get_or b 6 0) ∷ []

pub renewed_text : (r : Record) → renewed (old_record_bytes r) ≡ record_bytes r
unfolding old_record_bytes record_bytes
renewed_text (Said s) = refl
renewed_text (Decided question round true) = refl
renewed_text (Decided question round false) = refl

-- the last two have four bits each
step_small : (step : ℕ) (v : Value) → FitsStep step v → step < 16
step_small zero v fits = absurd fits
step_small (suc zero) v fits = omega arith
step_small (suc (suc zero)) v fits = omega arith
step_small (suc (suc (suc zero))) v fits = omega arith
step_small (suc (suc (suc (suc step)))) v fits = absurd fits

bit_small : (bit : Bool) → bit_byte bit ≤ 1
bit_small true = omega arith
bit_small false = omega arith

pub last_small : (b : List ℕ) (h : Header) (r : Record) → IsWellFormedFor h r → b ≡ old_record_bytes r → (get_or b 5 0 < 16) × (get_or b 6 0 < 16)
unfolding old_record_bytes
last_small b h (Said s) well same =
    let step : get_or b 5 0 ≡ s.place.step = ap (λ (l : List ℕ). get_or l 5 0) same in
    let value : get_or b 6 0 ≡ value_code s.value = ap (λ (l : List ℕ). get_or l 6 0) same in
    (omega (arith, step, step_small s.place.step s.value well.fits.value), omega (arith, value, code_small s.value))
last_small b h (Decided question round bit) well same =
    let step : get_or b 5 0 ≡ 0 = ap (λ (l : List ℕ). get_or l 5 0) same in
    let value : get_or b 6 0 ≡ bit_byte bit = ap (λ (l : List ℕ). get_or l 6 0) same in
    (omega (arith, step), omega (arith, value, bit_small bit))

-- seven bytes one by one
seven_bytes : (b : List ℕ) → length b ≡ 7 → b ≡ get_or b 0 0 ∷ get_or b 1 0 ∷ get_or b 2 0 ∷ get_or b 3 0 ∷ get_or b 4 0 ∷ get_or b 5 0 ∷ get_or b 6 0 ∷ []
seven_bytes [] long = absurd (omega (arith, long))
seven_bytes (b0 ∷ []) long = absurd (omega (arith, long))
seven_bytes (b0 ∷ b1 ∷ []) long = absurd (omega (arith, long))
seven_bytes (b0 ∷ b1 ∷ b2 ∷ []) long = absurd (omega (arith, long))
seven_bytes (b0 ∷ b1 ∷ b2 ∷ b3 ∷ []) long = absurd (omega (arith, long))
seven_bytes (b0 ∷ b1 ∷ b2 ∷ b3 ∷ b4 ∷ []) long = absurd (omega (arith, long))
seven_bytes (b0 ∷ b1 ∷ b2 ∷ b3 ∷ b4 ∷ b5 ∷ []) long = absurd (omega (arith, long))
seven_bytes (b0 ∷ b1 ∷ b2 ∷ b3 ∷ b4 ∷ b5 ∷ b6 ∷ []) long = refl
seven_bytes (b0 ∷ b1 ∷ b2 ∷ b3 ∷ b4 ∷ b5 ∷ b6 ∷ b7 ∷ b) long = absurd (omega (arith, long))

-- and back
pub from_renewed : (b : List ℕ) (r : Record) → length b ≡ 7 → get_or b 5 0 < 16 → get_or b 6 0 < 16 → renewed b ≡ record_bytes r → b ≡ old_record_bytes r
unfolding old_record_bytes record_bytes
from_renewed b (Said s) long step_fits value_fits same =
    let last : 16 * get_or b 5 0 + get_or b 6 0 ≡ 16 * s.place.step + value_code s.value = ap (λ (l : List ℕ). get_or l 5 0) same in
    let step : get_or b 5 0 ≡ s.place.step = omega (arith, last, step_fits, value_fits, code_small s.value) in
    let value : get_or b 6 0 ≡ value_code s.value = omega (arith, last, step_fits, value_fits, code_small s.value) in
    seven_bytes b long ∙ (λ i. get_or (same i) 0 0 ∷ get_or (same i) 1 0 ∷ get_or (same i) 2 0 ∷ get_or (same i) 3 0 ∷ get_or (same i) 4 0 ∷ step i ∷ value i ∷ [])
from_renewed b (Decided question round bit) long step_fits value_fits same =
    let last : 16 * get_or b 5 0 + get_or b 6 0 ≡ bit_byte bit = ap (λ (l : List ℕ). get_or l 5 0) same in
    let step : get_or b 5 0 ≡ 0 = omega (arith, last, bit_small bit) in
    let value : get_or b 6 0 ≡ bit_byte bit = omega (arith, last, bit_small bit) in
    seven_bytes b long ∙ (λ i. get_or (same i) 0 0 ∷ get_or (same i) 1 0 ∷ get_or (same i) 2 0 ∷ get_or (same i) 3 0 ∷ get_or (same i) 4 0 ∷ step i ∷ value i ∷ [])

-- two records of one header with the same bytes are one
same_record : (h : Header) (r q : Record) → IsSize h.size → IsWellFormedFor h r → IsWellFormedFor h q → old_record_bytes r ≡ old_record_bytes q → r ≡ q
same_record h r q size well well' same =
    same_new h r q size well well' (sym (renewed_text r) ∙ ap renewed same ∙ renewed_text q)

pub seven : IsSpelling version_1
seven = record {
  fixed = record { some = omega arith; few = omega arith; long = length-record_text };
  one = same_record;
}

-- some bytes are a record
pub is_old_record : (h : Header) (b : List ℕ) → IsSize h.size → ((r : Record) × IsWellFormedFor h r × (b ≡ old_record_bytes r)) ⊎ ((r : Record) → IsWellFormedFor h r → b ≢ old_record_bytes r)
is_old_record h b size = elim (cases_eq (length b) 7) [
  | inr other ↦ inr (λ r well same. other (ap (λ (l : List ℕ). length l) same ∙ length-record_text r))
  | inl long ↦ elim (cases_lt (get_or b 5 0) 16) [
    | inr large ↦ inr (λ r well same. omega (arith, large, (last_small b h r well same).0))
    | inl step ↦ elim (cases_lt (get_or b 6 0) 16) [
      | inr large ↦ inr (λ r well same. omega (arith, large, (last_small b h r well same).1))
      | inl value ↦ elim (is_record h (renewed b) size) [
        | inl is ↦ inl (is.0, is.1, from_renewed b is.0 long step value is.2)
        | inr never ↦ inr (λ r well same. never r well (ap renewed same ∙ renewed_text r))
      ]
    ]
  ]
]
