-- What `audit` answers.
use Rattle.std.specs.Prelude.{ℕ, ◌≡◌, ◌⊎◌, Option, List, codes}
use Rattle.std.specs.Io.KnownBytes.{Appends}
use Rattle.terms_prelude.specs.Terms.{Size}
use Rattle.numerals.specs.Lines.{line}
use Rattle.questions.specs.Audits.{IsProof}
use Rattle.transcripts.specs.Reading.{Shown, Reads}

-- the statements are proof of the bit: `yes`, and the status is 0; or they aren't: `no`, and it is 1
abbrev pub Answers : Size → Shown → ℕ → Option (List ℕ) → Option (List ℕ) → Type 0
Answers size shown status old new =
    (IsProof size shown.question shown.bit shown.pairs × (status ≡ 0) × Appends old new (line (codes "yes")))
    ⊎ ((IsProof size shown.question shown.bit shown.pairs → ⊥) × (status ≡ 1) × Appends old new (line (codes "no")))

-- the text is a transcript, and this is the answer to it
abbrev pub IsAudited : Size → List ℕ → ℕ → Option (List ℕ) → Option (List ℕ) → Type 0
IsAudited size text status old new = (shown : Shown) × Reads size text shown × Answers size shown status old new
