-- What members' transcripts of a question are worth, and what is made of them.
use Rattle.std.specs.Prelude.{ℕ, zero, suc, ◌≡◌, ◌<◌, ◌≤◌, ◌⊎◌, Bool, false, true, Option, Some, None, List, [], ◌∷◌, ◌++◌, codes, option_map}
use Rattle.std.specs.Io.KnownBytes.{Appends, Keeps}
use Rattle.std.specs.List.{AllByRecursion}
use Rattle.terms_prelude.specs.Terms.{Size, Statement}
use Rattle.client.specs.Readings.{HasNoDecision, IsDecision, Reads, size_of}
use Rattle.client.specs.declared.reading.Reading.{Reading}
use Rattle.transcripts.specs.Audits.{Answers, IsAudited}
use Rattle.transcripts.specs.Reading.{IsBadAt, Reads as ReadsText, Shown}
use Rattle.commands.specs.Surveys.{IsTranscriptOf, bit_number}
use Rattle.asking.specs.declared.board.News.{News}
use Rattle.asking.specs.declared.hearsay.Worth.{Worth}
use Rattle.asking.specs.declared.hearsay.Worth.TheVariants.{Nothing, Transcript, Proof}

-- the text begins as a transcript of the question
abbrev pub BeginsOn : ℕ → List ℕ → Type 0
BeginsOn question text = (bit : Bool) × IsTranscriptOf question (bit_number bit) text

-- a transcript of the question and this bit, with these statements
abbrev pub shown_of : ℕ → Bool → List (ℕ × Statement) → Shown
shown_of question bit pairs = record { question = question; bit = bit; pairs = pairs }

-- the text is a transcript of the question and this bit, of a cluster of that size, and `audit` ends with 0 for it, so `yes`
pub record IsProofOf (size : Size) (question : ℕ) (bit : Bool) (text : List ℕ) : Type 0 where
  pub pairs : List (ℕ × Statement)
  pub reads : ReadsText size text (shown_of question bit pairs)
  pub yes : Answers size (shown_of question bit pairs) 0 None None

-- `audit` ends with 1 for the text, so `no`, or names a line of it that is none of a transcript
abbrev pub IsNoProof : Size → List ℕ → Type 0
IsNoProof size text = IsAudited size text 1 None None ⊎ ((number : ℕ) × IsBadAt size text number)

-- what a reply on the question is worth, if one came
abbrev pub IsWorthOfReply : Size → ℕ → Option (List ℕ) → Worth → Type 0
IsWorthOfReply size question None worth = worth ≡ Nothing
IsWorthOfReply size question (Some reply) Nothing = BeginsOn question reply → ⊥
IsWorthOfReply size question (Some reply) Transcript = BeginsOn question reply × IsNoProof size reply
IsWorthOfReply size question (Some reply) (Proof bit) = IsProofOf size question bit reply

abbrev pub IsWorthOf : Size → ℕ → News → Worth → Type 0
IsWorthOf size question news worth = IsWorthOfReply size question (option_map (λ reply. reply.items) news.reply) worth

-- what a text that begins as a transcript of this bit is worth, by what `audit` ends with
abbrev pub worth_by : (status : ℕ) → Bool → Worth
worth_by zero bit = Proof bit
worth_by (suc status) bit = Transcript

-- the bit that is proved, if one is
abbrev pub bit_in : Worth → Option Bool
bit_in Nothing = None
bit_in Transcript = None
bit_in (Proof bit) = Some bit

-- a member sent this, which is proof of a decision of the question
abbrev pub SentProof : Size → ℕ → News → List ℕ → Type 0
SentProof size question news reply =
    (bit : Bool) × (option_map (λ sent. sent.items) news.reply ≡ Some reply) × IsProofOf size question bit reply

-- a member sent nothing that is proof
abbrev pub SentNoProof : Size → ℕ → News → Type 0
SentNoProof size question news = IsWorthOf size question news Nothing ⊎ IsWorthOf size question news Transcript

-- this is the first of all replies that is proof
abbrev pub IsFirstProof : Size → ℕ → List News → List ℕ → Type 0
IsFirstProof size question [] reply = ⊥
IsFirstProof size question (one ∷ others) reply =
    SentProof size question one reply ⊎ (SentNoProof size question one × IsFirstProof size question others reply)

-- the first reply that is proof is printed, as it came, if one is; and else nothing
abbrev pub PrintsFirst : Size → ℕ → List News → (found : Bool) → (old new : Option (List ℕ)) → Type 0
PrintsFirst size question news false old new = AllByRecursion (SentNoProof size question) news × Keeps old new
PrintsFirst size question news true old new = (reply : List ℕ) × IsFirstProof size question news reply × Appends old new reply

-- what a cluster's members proved, in order: who sent proof, and its bit. Of numbers from n on there is no member
abbrev pub AreProven : Size → ℕ → (n : ℕ) → List News → List (ℕ × Bool) → Type 0
AreProven size question n [] words = words ≡ []
AreProven size question n (one ∷ others) words =
    ((bit : Bool) × (rest : List (ℕ × Bool)) × IsWorthOf size question one (Proof bit) × (one.member < n)
    × AreProven size question n others rest × (words ≡ (one.member, bit) ∷ rest))
    ⊎ ((SentNoProof size question one ⊎ (n ≤ one.member)) × AreProven size question n others words)

-- the words of a reading get these more, and no others
pub record TakesProofs (size : Size) (question : ℕ) (news : List News) (old new : Reading) : Type 0 where
  pub words : List (ℕ × Bool)
  pub proven : AreProven size question (size_of old).n news words
  pub taken : (before : List (ℕ × Bool)) → Reads old before → Reads new (before ++ words)
  pub size_is : size_of new ≡ size_of old

-- the verdict on what members proved: `yes` and the status 0 where more than t proved one bit, and else `no` and 1
abbrev pub TellsVerdict : Size → List (ℕ × Bool) → (status : ℕ) → (old new : Option (List ℕ)) → Type 0
TellsVerdict size words status old new =
    ((status ≡ 0) × ((bit : Bool) × IsDecision size words bit) × Appends old new (codes "yes\n"))
    ⊎ ((status ≡ 1) × HasNoDecision size words × Appends old new (codes "no\n"))

-- a reading has the words that it had, and perhaps more
pub record HasMore (old new : Reading) : Type 0 where
  pub more : (before : List (ℕ × Bool)) → Reads old before → (words : List (ℕ × Bool)) × Reads new (before ++ words)
  pub size_is : size_of new ≡ size_of old
