-- What a book gives of a question that is decided.
use Rattle.std.specs.Prelude.{ℕ, ◌≡◌, ◌<◌, ◌≤◌, ◌%◌, ◌==◌, Bool, false, List, [], ◌∷◌, Some, None, filter, get_or, if◌then◌else◌}
use Rattle.terms_prelude.specs.Terms.{Size, Statement, pairs_on}
use Rattle.questions.specs.Audits.{IsProof}
use Rattle.questions.specs.Replay.{Entry, entry_statements}
use Rattle.member.specs.Answers.{verdict_of}
use Rattle.member.specs.Readers.{member_header, member_saved}
use Rattle.node.specs.Accounts.{Group, IsWithin, said_by}
use Rattle.node.specs.Firsts.{firsts_of}
use Rattle.node.specs.Views.{BookView}
use Rattle.node.specs.declared.transcript.Transcript.{Transcript}
use Rattle.node.specs.declared.transcript.TranscriptFault.{TranscriptFault}
use Rattle.node.specs.declared.transcript.TranscriptFault.TheVariants.{NoSuchQuestion, Undecided, Thin, Memory}

-- what a history has of the question: each sender and its statement, in order
abbrev pub heard_on : ℕ → List Entry → List (ℕ × Statement)
heard_on question history = pairs_on question (entry_statements history)

-- what this member said of these, in order
abbrev pub said_of : ℕ → List (ℕ × Statement) → List Statement
said_of peer [] = []
said_of peer (e ∷ es) = if e.0 == peer then e.1 ∷ said_of peer es else said_of peer es

-- the statements on the question
abbrev pub statements_on : ℕ → List Statement → List Statement
statements_on question all = filter (λ s. s.place.question == question) all

-- these were heard, each from its sender: in order, by the account
abbrev pub WereHeard : List Group → List (ℕ × Statement) → Type 0
WereHeard log pairs = (peer : ℕ) → IsWithin (said_of peer pairs) (said_by peer log)

-- of each member they are just the firsts on the question of what the account has of it
abbrev pub AreFirstsOn : List Group → ℕ → List (ℕ × Statement) → Type 0
AreFirstsOn log question pairs =
    (peer : ℕ) → said_of peer pairs ≡ statements_on question (firsts_of peer (said_by peer log))

-- what was heard among the entries is on no question whose place in the table isn't marked
abbrev pub AreMarkedIn : List Bool → List Entry → Type 0
AreMarkedIn table entries = (question : ℕ) → get_or table (question % 4096) false ≡ false → heard_on question entries ≡ []

-- how many questions the book has
abbrev pub questions_of : {D : Type 0} → BookView D → ℕ
questions_of book = (member_header book.member).size.questions

-- an audit of what the book heard of the question is true of the bit
abbrev pub IsHeardProof : {D : Type 0} → BookView D → ℕ → Bool → Type 0
IsHeardProof book question bit = IsProof (member_header book.member).size question bit (heard_on question book.history)

-- what a book has of a question that is decided: the size of its cluster, the question, the bit, and what was heard of it
pub record DossierView : Type 0 where
  pub size : Size
  pub question : ℕ
  pub bit : Bool
  pub heard : List (ℕ × Statement)

-- The dossier is the book's: what the history has of the question, which is decided for the bit. What was decided since the
-- opening it shows.
pub record IsDossier {D : Type 0} (book : BookView D) (question : ℕ) (dossier : DossierView) : Type 0 where
  pub asked : question < questions_of book
  pub size_is : dossier.size ≡ (member_header book.member).size
  pub question_is : dossier.question ≡ question
  pub decided : verdict_of (member_saved book.member) question ≡ Some dossier.bit
  pub heard : dossier.heard ≡ heard_on question book.history
  pub shows : verdict_of book.opening question ≡ None → IsHeardProof book question dossier.bit

-- why a dossier gives no transcript: what was heard is no proof, or there was no memory
abbrev pub ShowsNothing : DossierView → TranscriptFault → Type 0
ShowsNothing dossier Thin = IsProof dossier.size dossier.question dossier.bit dossier.heard → ⊥
ShowsNothing dossier Memory = Unit {0}
ShowsNothing dossier NoSuchQuestion = ⊥
ShowsNothing dossier Undecided = ⊥

-- the bit that the question is decided for, and what the history has of it, which is proof of the bit
pub record IsTranscript {D : Type 0} (book : BookView D) (question : ℕ) (transcript : Transcript) : Type 0 where
  pub decided : verdict_of (member_saved book.member) question ≡ Some transcript.bit
  pub heard : transcript.heard.items ≡ heard_on question book.history
  pub proof : IsProof (member_header book.member).size question transcript.bit transcript.heard.items

-- why there is no dossier: the first that holds
abbrev pub HasNoDossier : {D : Type 0} → BookView D → ℕ → TranscriptFault → Type 0
HasNoDossier book question NoSuchQuestion = questions_of book ≤ question
HasNoDossier book question Undecided =
    (question < questions_of book) × (verdict_of (member_saved book.member) question ≡ None)
HasNoDossier book question Thin = ⊥
HasNoDossier book question Memory = (bit : Bool) × (verdict_of (member_saved book.member) question ≡ Some bit)

-- why there is no transcript: the first that holds
abbrev pub HasNoTranscript : {D : Type 0} → BookView D → ℕ → TranscriptFault → Type 0
HasNoTranscript book question NoSuchQuestion = questions_of book ≤ question
HasNoTranscript book question Undecided =
    (question < questions_of book) × (verdict_of (member_saved book.member) question ≡ None)
HasNoTranscript book question Thin =
    (bit : Bool) × (verdict_of (member_saved book.member) question ≡ Some bit) × (IsHeardProof book question bit → ⊥)
    × (verdict_of book.opening question ≡ None → ⊥)
HasNoTranscript book question Memory = (bit : Bool) × (verdict_of (member_saved book.member) question ≡ Some bit)
