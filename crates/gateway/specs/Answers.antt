-- Objects of JSON about questions.
use Rattle.std.specs.Prelude.{ℕ, zero, suc, ◌≡◌, Bool, true, false, Option, Some, None, List, [], ◌∷◌, ◌++◌, ◌==◌, codes, drop, if◌then◌else◌, map}
use Rattle.std.specs.Fmt.{decimal}
use Rattle.std.specs.List.{flat_map}
use Rattle.terms_prelude.specs.Terms.{Size}
use Rattle.client.specs.Readings.{first_word}
use Rattle.gateway.specs.declared.answers.Moment.{Moment}
use Rattle.gateway.specs.declared.answers.Transcript.{Transcript}
use Rattle.gateway.specs.declared.requests.Refusal.{Refusal}
use Rattle.gateway.specs.declared.standings.Stage.{Stage}
use Rattle.gateway.specs.declared.standings.Standing.{Standing}
use Rattle.gateway.specs.declared.watch.Told.{Told}
use Rattle.gateway.specs.Requests.{word_of}
use Rattle.gateway.specs.Standings.{letter, standing_fields, standing_of}
use Rattle.gateway.specs.Watches.{Decides, words_on}

-- what a member told
abbrev pub says_text : Option Bool → List ℕ
says_text None = codes "null"
says_text (Some false) = codes "0"
says_text (Some true) = codes "1"

-- a member's item behind a comma, and the items of so many members from one on
abbrev pub word_item : ℕ → Option Bool → List ℕ
word_item member word = codes ",{\"member\":" ++ (decimal member ++ (codes ",\"says\":" ++ (says_text word ++ codes "}")))

abbrev pub word_items : (ℕ → Option Bool) → ℕ → ℕ → List ℕ
word_items words member zero = []
word_items words member (suc more) = word_item member (words member) ++ word_items words (suc member) more

-- the object of a question
abbrev pub question_head : ℕ → Standing → List ℕ
question_head question standing =
    codes "{\"question\":" ++ (decimal question ++ (codes "," ++ (standing_fields standing ++ codes ",\"members\":[")))

abbrev pub question_object : ℕ → Standing → (ℕ → Option Bool) → ℕ → List ℕ
question_object question standing words n = (question_head question standing ++ drop 1 (word_items words 0 n)) ++ codes "]}\n"

-- the object tells the decision of what was told, and each member's word
pub record TellsQuestion (size : Size) (heard : List Told) (question : ℕ) (stage : Stage) (text : List ℕ) : Type 0 where
  pub decision : Option Bool
  pub decided : Decides size heard question decision
  pub is : text ≡ question_object question (standing_of decision stage) (first_word (words_on question heard)) size.n

-- the object of a proposal: what is known of the question, how many members took it, and how many had one
abbrev pub proposal_object : ℕ → Standing → ℕ → ℕ → List ℕ
proposal_object question standing taken have =
    codes "{\"question\":" ++ (decimal question ++ (codes "," ++ (standing_fields standing
    ++ (codes ",\"taken\":" ++ (decimal taken ++ (codes ",\"have\":" ++ (decimal have ++ codes "}\n")))))))

-- the lines of a text of JSON: the end of each is `\n`
abbrev pub escaped_byte : ℕ → List ℕ
escaped_byte byte = if byte == 10 then codes "\\n" else byte ∷ []

abbrev pub escaped : List ℕ → List ℕ
escaped text = flat_map escaped_byte text

-- what an audit says
abbrev pub yes_or_no : Bool → List ℕ
yes_or_no false = codes "no"
yes_or_no true = codes "yes"

-- the object of a transcript
abbrev pub transcript_head : Transcript → List ℕ
transcript_head told =
    codes "{\"question\":" ++ (decimal told.question ++ (codes ",\"bit\":" ++ (says_text (Some told.bit) ++ (codes ",\"member\":"
    ++ (decimal told.member ++ (codes ",\"audit\":\"" ++ (yes_or_no told.proven ++ codes "\",\"transcript\":\"")))))))

abbrev pub transcript_object : Transcript → List ℕ
transcript_object told = (transcript_head told ++ escaped told.text.now) ++ codes "\"}\n"

-- the object of questions: a letter for each, the decisions in each of the last seconds, and the position from which the stream
-- goes on
abbrev pub states_head : Moment → List ℕ
states_head moment =
    codes "{\"questions\":" ++ (decimal moment.questions ++ (codes ",\"from\":" ++ (decimal moment.from ++ (codes ",\"to\":" ++ (decimal moment.to
    ++ (codes ",\"life\":\"" ++ (decimal moment.after.life ++ (codes "\",\"after\":" ++ (decimal moment.after.number ++ codes ",\"lately\":[")))))))))

abbrev pub number_item : ℕ → List ℕ
number_item number = codes "," ++ decimal number

abbrev pub number_items : List ℕ → List ℕ
number_items numbers = flat_map number_item numbers

abbrev pub states_front : Moment → List ℕ → List ℕ
states_front moment lately = (states_head moment ++ drop 1 (number_items lately)) ++ codes "],\"states\":\""

abbrev pub states_object : Moment → List ℕ → List Standing → List ℕ
states_object moment lately standings = (states_front moment lately ++ map letter standings) ++ codes "\"}\n"

-- the object that says if the cluster can decide
abbrev pub ready_object : Bool → List ℕ
ready_object false = codes "{\"ready\":false}\n"
ready_object true = codes "{\"ready\":true}\n"

-- the object of a refusal
abbrev pub refusal_object : Refusal → List ℕ
refusal_object refusal = codes "{\"error\":\"" ++ (word_of refusal ++ codes "\"}\n")
