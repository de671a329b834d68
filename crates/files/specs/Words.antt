-- What is told of a word of the command line that is no number.
use Rattle.std.specs.Prelude.{ℕ, ◌≡◌, List, ◌++◌, codes}
use Rattle.files.specs.declared.words.Number.{Number}
use Rattle.files.specs.declared.words.Number.TheVariants as number

-- the text has this part
abbrev pub HasPart : List ℕ → List ℕ → Type 0
HasPart text part = (front : List ℕ) × (behind : List ℕ) × (text ≡ front ++ (part ++ behind))

-- how the reader of the command line names it
abbrev pub mark_text : Number → List ℕ
mark_text number.Bit = codes "for '<V>': "
mark_text number.Question = codes "for '<Q>': "
mark_text number.Members = codes "for '--n <N>': "
mark_text number.Liars = codes "for '--t <T>': "
mark_text number.Questions = codes "for '--questions <Q>': "
mark_text number.Me = codes "for '--me <M>': "
mark_text number.Cluster = codes "for '--cluster <C>': "
mark_text number.Port = codes "for '--port <FIRST>': "
mark_text number.ChartQuestion = codes "for '--question <Q>': "
mark_text number.ChartMember = codes "for '--member <M>': "
mark_text number.First = codes "for '--from <FIRST>': "
mark_text number.Last = codes "for '--to <LAST>': "

-- what it has to be
abbrev pub number_text : Number → List ℕ
number_text number.Bit = codes "V: must be 0 or 1"
number_text number.Question = codes "Q: must be an integer from 0 on and below the cluster's number of questions"
number_text number.Members = codes "--n: must be an integer from 1 to 64"
number_text number.Liars = codes "--t: must be an integer from 0 on and below a third of n"
number_text number.Questions = codes "--questions: must be an integer from 1 to 4096"
number_text number.Me = codes "--me: must be an integer from 0 on and below n"
number_text number.Cluster = codes "--cluster: must be an integer from 0 to 4294967295"
number_text number.Port = codes "--port: must be an integer from 1 to 65535"
number_text number.ChartQuestion = codes "--question: must be an integer from 0 on and below the script's number of questions"
number_text number.ChartMember = codes "--member: must be an integer from 0 on and below the script's n"
number_text number.First = codes "--from: must be an integer from 1 to 4294967295"
number_text number.Last = codes "--to: must be an integer from 1 to 4294967295"

-- the fault names a number, and the words say what that has to be
abbrev pub IsNumberWords : List ℕ → List ℕ → Type 0
IsNumberWords said words = (number : Number) × HasPart said (mark_text number) × (words ≡ number_text number)
