-- Members' words on one question, and what is printed of them.
use Rattle.std.specs.Prelude.{ℕ, suc, ◌≡◌, ◌⊎◌, Bool, false, true, Option, Some, None, List, [], ◌∷◌, ◌++◌, codes}
use Rattle.std.specs.Fmt.{decimal}
use Rattle.commands.specs.Talks.{TellsDecision}
use Rattle.commands.specs.declared.survey.Word.{Word}
use Rattle.commands.specs.declared.survey.Word.TheVariants.{Silent, Undecided, Decided, Other}
use Rattle.commands.specs.declared.survey.Next.{Next}
use Rattle.commands.specs.declared.survey.Next.TheVariants.{Begin, Wait, End}

-- the reply is one of a member that takes part and tells no decision
abbrev pub TakesPart : List ℕ → Type 0
TakesPart reply =
    (reply ≡ codes "UNDECIDED") ⊎ ((reply ≡ codes "OK") ⊎ ((reply ≡ codes "HAVE 0") ⊎ (reply ≡ codes "HAVE 1")))

-- the word that a reply is
abbrev pub IsWord : List ℕ → Word → Type 0
IsWord reply Silent = ⊥
IsWord reply Undecided = TakesPart reply
IsWord reply (Decided bit) = TellsDecision reply (Some bit)
IsWord reply Other = TellsDecision reply None × (TakesPart reply → ⊥)

-- a decision that was told stays
abbrev pub later_word : Word → Word → Word
later_word (Decided bit) word = Decided bit
later_word Silent word = word
later_word Undecided word = word
later_word Other word = word

-- the line that is sent after another reply: to the first line, or to the one that waits
abbrev pub next_of_other : (first : Bool) → Next
next_of_other true = Wait
next_of_other false = Begin

-- and after a word
abbrev pub next_of : Word → (first : Bool) → Next
next_of Undecided first = Wait
next_of (Decided bit) first = End
next_of Silent first = Begin
next_of Other first = next_of_other first

-- a bit that isn't the one that is printed
abbrev pub zero_remark : ℕ → Option Bool → List ℕ
zero_remark member (Some false) = []
zero_remark member (Some true) = codes "bracha: member " ++ (decimal member ++ codes " says 0\n")
zero_remark member None = codes "bracha: member " ++ (decimal member ++ codes " says 0\n")

abbrev pub one_remark : ℕ → Option Bool → List ℕ
one_remark member (Some true) = []
one_remark member (Some false) = codes "bracha: member " ++ (decimal member ++ codes " says 1\n")
one_remark member None = codes "bracha: member " ++ (decimal member ++ codes " says 1\n")

abbrev pub bit_remark : ℕ → Bool → Option Bool → List ℕ
bit_remark member false decision = zero_remark member decision
bit_remark member true decision = one_remark member decision

-- what people are told of a member's word where this is printed
abbrev pub remark : ℕ → Word → Option Bool → List ℕ
remark member Silent decision = codes "bracha: member " ++ (decimal member ++ codes " doesn't answer\n")
remark member Other decision = codes "bracha: member " ++ (decimal member ++ codes " has another reply\n")
remark member Undecided decision = []
remark member (Decided bit) decision = bit_remark member bit decision

-- and of all members' words, by number
abbrev pub remarks_from : ℕ → List Word → Option Bool → List ℕ
remarks_from member [] decision = []
remarks_from member (word ∷ words) decision = remark member word decision ++ remarks_from (suc member) words decision

-- the status for a decision, or for none
abbrev pub status_for : Option Bool → ℕ
status_for (Some bit) = 0
status_for None = 1

-- the beginning of a transcript
abbrev pub transcript_head : ℕ → ℕ → List ℕ
transcript_head question bit = codes "transcript " ++ (decimal question ++ (codes " bit " ++ (decimal bit ++ codes " ")))

-- the text begins as a transcript of the question and this bit
abbrev pub IsTranscriptOf : ℕ → ℕ → List ℕ → Type 0
IsTranscriptOf question bit text = (rest : List ℕ) × (text ≡ transcript_head question bit ++ rest)

abbrev pub bit_number : Bool → ℕ
bit_number false = 0
bit_number true = 1
