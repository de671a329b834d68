-- Cores of one question, and their seed.
use Rattle.std.specs.Prelude.{ℕ, ◌≡◌, ◌<◌, Bool, Option, Some, IsSome, List, [], ◌++◌, length, replicate, slice_get}
use Rattle.std.specs.Int.{w64, to_be_bytes}
use Rattle.terms_prelude.specs.Terms.{Size, Record, Statement, decided}
use Rattle.questions.specs.declared.Core.{Core}
use Rattle.questions.specs.Readers.{CoreStandsFor, core_me, core_size}

-- the seed of 32 bytes: the number's eight, the greatest first, and 24 zeros
abbrev pub seed_of : ℕ → List ℕ
seed_of number = to_be_bytes w64 number ++ replicate 24 0

-- the core is that of the member, and has no record and heard nothing
pub record IsNewCore (size : Size) (member : ℕ) (core : Core) : Type 0 where
  pub its_size : core_size core ≡ size
  pub its_member : core_me core ≡ member
  pub knows : CoreStandsFor core [] []

-- the decision, or that there is none, is that of the records that the core stands for
abbrev pub IsVerdict : Core → Option (ℕ × Bool) → Type 0
IsVerdict core verdict =
    (records : List Record) (heard : List (ℕ × Statement)) → CoreStandsFor core records heard
    → 0 < (core_size core).questions → verdict ≡ decided records 0

-- there is a decision in the records that the core stands for
abbrev pub HasDecided : Core → Type 0
HasDecided core =
    (records : List Record) (heard : List (ℕ × Statement)) → CoreStandsFor core records heard
    → 0 < (core_size core).questions → IsSome (decided records 0)

-- the verdicts are those of the cores, in order
pub record AreVerdicts (cores : List Core) (verdicts : List (Option (ℕ × Bool))) : Type 0 where
  pub count : length verdicts ≡ length cores
  pub each : (member : ℕ) (core : Core) (verdict : Option (ℕ × Bool)) → slice_get cores member ≡ Some core
      → slice_get verdicts member ≡ Some verdict → IsVerdict core verdict
