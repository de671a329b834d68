-- Transcripts that members send, and what an audit says of them.
use Rattle.std.specs.Prelude.{ℕ, ◌≡◌, ◌<◌, ◌%◌, Bool, true, false, Option, Some, None, List, ◌∷◌, ◌++◌, codes}
use Rattle.std.specs.Fmt.{decimal}
use Rattle.terms_prelude.specs.Terms.{Size, Statement}
use Rattle.transcripts.specs.Audits.{Answers, IsAudited}
use Rattle.transcripts.specs.Lines.{bit_words}
use Rattle.transcripts.specs.Reading.{Reads, Shown}
use Rattle.portal.specs.declared.fetching.Fetched.{Fetched}
use Rattle.portal.specs.declared.fetching.Fetched.TheVariants as fetched
use Rattle.portal.specs.declared.fetching.Sent.{Sent}

-- the question that a transcript names: in a chain that of the slot's epoch
abbrev pub question_in : Size → ℕ → ℕ
question_in size question = question % size.questions

-- the text begins as a transcript of the question and the bit
abbrev pub transcript_front : ℕ → Bool → List ℕ
transcript_front question bit = codes "transcript " ++ (decimal question ++ 32 ∷ bit_words bit)

abbrev pub BeginsAs : ℕ → Bool → List ℕ → Type 0
BeginsAs question bit text = (rest : List ℕ) × (text ≡ transcript_front question bit ++ rest)

-- a transcript of the question and the bit, with these senders and statements
abbrev pub shown_of : ℕ → Bool → List (ℕ × Statement) → Shown
shown_of question bit pairs = record { question = question; bit = bit; pairs = pairs }

-- the text is a transcript of the question and the bit
abbrev pub IsTranscriptOf : Size → ℕ → Bool → List ℕ → Type 0
IsTranscriptOf size question bit text = (pairs : List (ℕ × Statement)) × Reads size text (shown_of question bit pairs)

-- the status of an audit: 0 for `yes`
abbrev pub audit_status : Bool → ℕ
audit_status true = 0
audit_status false = 1

-- what an audit says of the text; nothing if it is no transcript. What it writes isn't looked at
abbrev pub IsAuditOf : Size → List ℕ → Option Bool → Type 0
IsAuditOf size text None = (shown : Shown) → Reads size text shown → ⊥
IsAuditOf size text (Some proven) = IsAudited size text (audit_status proven) None None

-- what was sent is a transcript of the question and the bit, and it is called proven exactly if an audit of its lines says `yes`
pub record IsSentOf (size : Size) (question : ℕ) (bit : Bool) (sent : Sent) : Type 0 where
  pub pairs : List (ℕ × Statement)
  pub reads : Reads size sent.text.items (shown_of question bit pairs)
  pub audited : Answers size (shown_of question bit pairs) (audit_status sent.proven) None None

-- the text of a member counts exactly if it is a transcript of the question and the bit
abbrev pub IsSentIn : Size → ℕ → Bool → ℕ → List ℕ → Option Sent → Type 0
IsSentIn size question bit member text None = IsTranscriptOf size question bit text → ⊥
IsSentIn size question bit member text (Some sent) = (sent.member ≡ member) × (sent.text.items ≡ text) × IsSentOf size question bit sent

-- what is known after a member answered with no transcript
abbrev pub answered : Fetched → Fetched
answered (fetched.Sent sent) = fetched.Sent sent
answered fetched.Thin = fetched.Thin
answered fetched.Silent = fetched.Thin

-- a transcript that is proof was sent
abbrev pub is_proven : Fetched → Bool
is_proven (fetched.Sent sent) = sent.proven
is_proven fetched.Thin = false
is_proven fetched.Silent = false

-- what was sent, if anything was, is a transcript of the question and the bit
abbrev pub IsFetchOf : Size → ℕ → Bool → Fetched → Type 0
IsFetchOf size question bit (fetched.Sent sent) = IsSentOf size question bit sent
IsFetchOf size question bit fetched.Thin = Unit {0}
IsFetchOf size question bit fetched.Silent = Unit {0}
