-- The epochs of a chain that members say they have closed, and what is printed of them.
use Rattle.std.specs.Prelude.{ℕ, zero, suc, ◌≡◌, ◌⊎◌, min, Option, Some, None, List, [], ◌∷◌, ◌++◌, codes, drop}
use Rattle.std.specs.Fmt.{decimal}
use Rattle.numerals.specs.Lines.{line}
use Rattle.commands.specs.Replies.{AreCounts, IsReplyLine}
use Rattle.commands.specs.Talks.{member_line}
use Rattle.commands.specs.declared.closing.Closing.{Closing}
use Rattle.commands.specs.declared.closing.Told.{Told}
use Rattle.commands.specs.declared.closing.Told.TheVariants.{Silent, Epochs, Other}

-- the line that asks which epochs a member has closed
abbrev pub epochs_line : List ℕ
epochs_line = line (codes "EPOCHS")

-- the words are both numbers, with a space between them
abbrev pub AreEpochs : List ℕ → Closing → Type 0
AreEpochs words epochs = AreCounts words epochs.closed epochs.newest

-- the reply is `EPOCHS C N`
abbrev pub HasEpochs : List ℕ → Closing → Type 0
HasEpochs reply epochs = (words : List ℕ) × (reply ≡ codes "EPOCHS " ++ words) × AreEpochs words epochs

-- it is one of these
abbrev pub IsEpochs : List ℕ → Type 0
IsEpochs reply = (epochs : Closing) × HasEpochs reply epochs

-- a desk's answer to the line: the epochs, or a reply to any line
abbrev pub IsAnswer : List ℕ → Type 0
IsAnswer reply = IsEpochs reply ⊎ IsReplyLine reply

-- the word that a reply is, or that none came
abbrev pub IsTold : Option (List ℕ) → Told → Type 0
IsTold None Silent = Unit {0}
IsTold None (Epochs epochs) = ⊥
IsTold None (Other bytes) = ⊥
IsTold (Some reply) Silent = ⊥
IsTold (Some reply) (Epochs epochs) = HasEpochs reply epochs
IsTold (Some reply) (Other bytes) = (bytes.items ≡ reply) × (IsEpochs reply → ⊥)

-- the number of the first epoch that isn't closed at a member, if it told it
abbrev pub closed_of : Told → Option ℕ
closed_of Silent = None
closed_of (Epochs epochs) = Some epochs.closed
closed_of (Other bytes) = None

-- the lesser of two numbers, if there are both
abbrev pub lesser : Option ℕ → Option ℕ → Option ℕ
lesser (Some one) (Some other) = Some (min one other)
lesser (Some one) None = None
lesser None other = None

-- the least of a number and of those of these members, if there is each
abbrev pub least_from : Option ℕ → List Told → Option ℕ
least_from least [] = least
least_from least (told ∷ tolds) = least_from (lesser least (closed_of told)) tolds

-- the least number of all members, if each told one
abbrev pub least_closed : List Told → Option ℕ
least_closed [] = None
least_closed (told ∷ tolds) = least_from (closed_of told) tolds

-- the line of a member, and those of all, by number
abbrev pub epochs_words : Closing → List ℕ
epochs_words epochs = codes "closed " ++ (decimal epochs.closed ++ (codes " newest " ++ decimal epochs.newest))

abbrev pub told_line : ℕ → Told → List ℕ
told_line member Silent = member_line member (codes "no answer")
told_line member (Epochs epochs) = member_line member (epochs_words epochs)
told_line member (Other bytes) = member_line member bytes.items

abbrev pub told_lines : ℕ → List Told → List ℕ
told_lines member [] = []
told_lines member (told ∷ tolds) = told_line member told ++ told_lines (suc member) tolds

-- the line of the least number, if there is one
abbrev pub closed_line : Option ℕ → List ℕ
closed_line (Some closed) = codes "closed " ++ (decimal closed ++ codes "\n")
closed_line None = codes "closed unknown\n"

-- the lines of the members and of the least number
abbrev pub epochs_text : List Told → List ℕ
epochs_text told = told_lines 0 told ++ closed_line (least_closed told)

-- a number in JSON, or none
abbrev pub number_word : Option ℕ → List ℕ
number_word (Some number) = decimal number
number_word None = codes "null"

-- the object of a member behind a comma, and those of all
abbrev pub told_item : ℕ → Told → List ℕ
told_item member Silent = codes ",{\"member\":" ++ (decimal member ++ codes ",\"closed\":null,\"newest\":null}")
told_item member (Epochs epochs) =
    codes ",{\"member\":" ++ (decimal member ++ (codes ",\"closed\":" ++ (decimal epochs.closed ++ (codes ",\"newest\":"
    ++ (decimal epochs.newest ++ codes "}")))))
told_item member (Other bytes) = codes ",{\"member\":" ++ (decimal member ++ codes ",\"closed\":null,\"newest\":null}")

abbrev pub told_items : ℕ → List Told → List ℕ
told_items member [] = []
told_items member (told ∷ tolds) = told_item member told ++ told_items (suc member) tolds

-- the object of the members and of the least number, in a line
abbrev pub epochs_object : List Told → List ℕ
epochs_object told =
    (((codes "{\"members\":[" ++ drop 1 (told_items 0 told)) ++ codes "],\"closed\":") ++ number_word (least_closed told)) ++ codes "}\n"

-- the status for the least number, or for none
abbrev pub closed_status : Option ℕ → ℕ
closed_status (Some closed) = 0
closed_status None = 1
