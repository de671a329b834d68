-- A spelling of records, and counts of their bytes.
use Rattle.std.proofs.Common.{◌≡◌, inl, inr, ℕ, ◌+◌, ◌*◌, ◌<◌, ◌≤◌, arith}
use Rattle.std.proofs.Math.Nat.{mul-suc, mul-le-mul_left}
use Rattle.std.proofs.lemmas.Bool.{cases_lt}
use Rattle.terms_prelude.specs.Terms.{Record, Header, IsSize}
use Rattle.journal.specs.Words.{Spelling, HasWidth, IsWellFormedFor}

-- each record has as many bytes, and no two of one header have the same
pub record IsSpelling (spelling : Spelling) : Type 0 where
  pub fixed : HasWidth spelling
  pub one : (h : Header) (r q : Record) → IsSize h.size → IsWellFormedFor h r → IsWellFormedFor h q → spelling.bytes r ≡ spelling.bytes q → r ≡ q

-- the bytes of one more are within those of so many
pub fits_in : (w k c : ℕ) → k < c → w * k + w ≤ w * c
fits_in w k c below = omega (arith, mul-suc w k, mul-le-mul_left w below)

-- what is left of so many, where it is less than one, is nothing
pub no_rest : (w n c r : ℕ) → w * n + r ≡ w * c → r < w → r ≡ 0
no_rest w n c r sum short = elim (cases_lt n c) [
  | inl below ↦ absurd (omega (arith, sum, short, fits_in w n c below))
  | inr above ↦ omega (arith, sum, mul-le-mul_left w above)
]

-- and where it is one or more, there are fewer than so many
pub one_left : (w n c r : ℕ) → 0 < w → w * n + r ≡ w * c → w ≤ r → n < c
one_left w n c r some sum long = elim (cases_lt n c) [
  | inl below ↦ below
  | inr above ↦ absurd (omega (arith, some, sum, long, mul-le-mul_left w above))
]

-- as many records have as many bytes
pub as_many : (w n m : ℕ) → 0 < w → w * n ≡ w * m → n ≡ m
as_many w n m some same = elim (cases_lt n m) [
  | inl below ↦ absurd (omega (arith, some, same, fits_in w n m below))
  | inr above ↦ elim (cases_lt m n) [
    | inl more ↦ absurd (omega (arith, some, same, fits_in w m n more))
    | inr equal ↦ omega (arith, above, equal)
  ]
]
