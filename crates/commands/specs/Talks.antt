-- What a client asks a member that runs, and what its reply means.
use Rattle.std.specs.Prelude.{ℕ, ◌≡◌, ◌⊎◌, Bool, false, true, Option, Some, None, List, [], ◌∷◌, ◌++◌, codes}
use Rattle.std.specs.Fmt.{decimal}
use Rattle.numerals.specs.Lines.{line}
use Rattle.numerals.specs.Sentences.{sentence}
use Rattle.commands.specs.Replies.{HasCounts, IsLinks, IsStage, IsReady}

-- the line that proposes a bit on a question
abbrev pub propose_line : ℕ → ℕ → List ℕ
propose_line question bit = line (sentence (codes "PROPOSE" ∷ decimal question ∷ decimal bit ∷ []))

-- the line that asks for the decision of a question
abbrev pub ask_line : ℕ → List ℕ
ask_line question = line (sentence (codes "ASK" ∷ decimal question ∷ []))

-- the line that asks how it stands
abbrev pub state_line : ℕ → List ℕ
state_line question = line (sentence (codes "STATE" ∷ decimal question ∷ []))

-- the line that waits for its decision
abbrev pub await_line : ℕ → List ℕ
await_line question = line (sentence (codes "AWAIT" ∷ decimal question ∷ []))

-- what the reply tells of a decision, if it tells one
abbrev pub TellsDecision : List ℕ → Option Bool → Type 0
TellsDecision reply (Some false) = reply ≡ codes "DECIDED 0"
TellsDecision reply (Some true) = reply ≡ codes "DECIDED 1"
TellsDecision reply None = (reply ≡ codes "DECIDED 0" → ⊥) × (reply ≡ codes "DECIDED 1" → ⊥)

-- the reply that tells a decision, or that there is none
abbrev pub decision_reply : Option Bool → List ℕ
decision_reply (Some false) = codes "DECIDED 0"
decision_reply (Some true) = codes "DECIDED 1"
decision_reply None = codes "UNDECIDED"

-- the object of JSON that says the same
abbrev pub decision_object : Option Bool → List ℕ
decision_object (Some false) = codes "{\"decided\":0}"
decision_object (Some true) = codes "{\"decided\":1}"
decision_object None = codes "{\"undecided\":true}"

-- the line that asks whether a member is up
abbrev pub status_line : List ℕ
status_line = line (codes "STATUS")

-- the line that asks how many links come and go
abbrev pub links_line : List ℕ
links_line = line (codes "LINKS")

-- the line that asks for what was heard of a question
abbrev pub transcript_line : ℕ → List ℕ
transcript_line question = line (sentence (codes "TRANSCRIPT" ∷ decimal question ∷ []))

-- the words in front of a member's reply, and its line
abbrev pub member_words : ℕ → List ℕ
member_words member = codes "member " ++ (decimal member ++ codes " ")

abbrev pub member_line : ℕ → List ℕ → List ℕ
member_line member reply = (member_words member ++ reply) ++ 10 ∷ []

-- the member is up: it says its counts
abbrev pub IsUp : List ℕ → Type 0
IsUp reply = (m d : ℕ) × HasCounts reply m d

-- the reply says how far the member is, how many of its links are up, or how a question stands there
abbrev pub SaysStanding : List ℕ → Type 0
SaysStanding reply = IsUp reply ⊎ (IsLinks reply ⊎ IsStage reply)

-- the member did as it was asked
abbrev pub IsGood : List ℕ → Type 0
IsGood reply =
    (reply ≡ codes "OK") ⊎ ((reply ≡ codes "HAVE 0") ⊎ ((reply ≡ codes "HAVE 1") ⊎ ((reply ≡ codes "DECIDED 0")
    ⊎ ((reply ≡ codes "DECIDED 1") ⊎ ((reply ≡ codes "UNDECIDED") ⊎ SaysStanding reply)))))

-- the status for a reply: 0 where the member did as it was asked, and 1 else
abbrev pub HasStatus : List ℕ → ℕ → Type 0
HasStatus reply status = ((status ≡ 0) × IsGood reply) ⊎ ((status ≡ 1) × (IsGood reply → ⊥))

-- the status for a reply of a member that is to be ready: 0 where as many links come in and go out as are needed, and 1 else
abbrev pub HasReadyStatus : List ℕ → ℕ → Type 0
HasReadyStatus reply status = ((status ≡ 0) × IsReady reply) ⊎ ((status ≡ 1) × (IsReady reply → ⊥))
