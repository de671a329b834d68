-- The replies of a desk, and the objects of JSON that say the same.
use Rattle.std.specs.Prelude.{ℕ, ◌≡◌, ◌≢◌, ◌⊎◌, ◌≤◌, List, [], ◌∷◌, ◌++◌, codes, length, get_or}
use Rattle.std.specs.Fmt.{decimal}
use Rattle.numerals.specs.Numbers.{IsBelow}
use Rattle.numerals.specs.Spaces.{NoSpace}
use Rattle.commands.specs.declared.replies.Links.{Links}
use Rattle.commands.specs.declared.stages.Stage.{Stage}
use Rattle.commands.specs.declared.stages.Stage.TheVariants.{Unproposed, Spent, Open}

-- the digits write the number, with no zero before it
abbrev pub IsCount : List ℕ → ℕ → Type 0
IsCount digits n = IsBelow 64 digits n × ((length digits ≤ 1) ⊎ (get_or digits 0 0 ≢ 48))

-- the words are two such, with a space between them
abbrev pub AreCounts : List ℕ → ℕ → ℕ → Type 0
AreCounts words m d = (first second : List ℕ) × (words ≡ first ++ 32 ∷ second) × NoSpace first × IsCount first m × IsCount second d

-- the reply is `UP m d`
abbrev pub HasCounts : List ℕ → ℕ → ℕ → Type 0
HasCounts reply m d = (words : List ℕ) × (reply ≡ codes "UP " ++ words) × AreCounts words m d

-- the object of a reply that says that it was done, or what was decided
abbrev pub SaysDone : List ℕ → List ℕ → Type 0
SaysDone reply object =
    ((reply ≡ codes "OK") × (object ≡ codes "{\"ok\":true}"))
    ⊎ (((reply ≡ codes "HAVE 0") × (object ≡ codes "{\"have\":0}"))
    ⊎ (((reply ≡ codes "HAVE 1") × (object ≡ codes "{\"have\":1}"))
    ⊎ (((reply ≡ codes "DECIDED 0") × (object ≡ codes "{\"decided\":0}"))
    ⊎ (((reply ≡ codes "DECIDED 1") × (object ≡ codes "{\"decided\":1}"))
    ⊎ ((reply ≡ codes "UNDECIDED") × (object ≡ codes "{\"undecided\":true}"))))))

-- the object of a reply that says why not
abbrev pub SaysWhyNot : List ℕ → List ℕ → Type 0
SaysWhyNot reply object =
    ((reply ≡ codes "STOPPED") × (object ≡ codes "{\"stopped\":true}"))
    ⊎ (((reply ≡ codes "THIN") × (object ≡ codes "{\"thin\":true}"))
    ⊎ (((reply ≡ codes "ERR 1 line") × (object ≡ codes "{\"error\":1,\"name\":\"line\"}"))
    ⊎ (((reply ≡ codes "ERR 2 question") × (object ≡ codes "{\"error\":2,\"name\":\"question\"}"))
    ⊎ (((reply ≡ codes "ERR 3 bit") × (object ≡ codes "{\"error\":3,\"name\":\"bit\"}"))
    ⊎ (((reply ≡ codes "ERR 4 memory") × (object ≡ codes "{\"error\":4,\"name\":\"memory\"}"))
    ⊎ ((reply ≡ codes "ERR 5 gone") × (object ≡ codes "{\"error\":5,\"name\":\"gone\"}")))))))

-- either of them
abbrev pub SaysFixed : List ℕ → List ℕ → Type 0
SaysFixed reply object = SaysDone reply object ⊎ SaysWhyNot reply object

-- the object of `UP m d`
abbrev pub up_object : ℕ → ℕ → List ℕ
up_object m d = codes "{\"up\":true,\"statements\":" ++ (decimal m ++ (codes ",\"decided\":" ++ (decimal d ++ codes "}")))

-- the words are such a number, a space and the rest
abbrev pub HasFirst : List ℕ → ℕ → List ℕ → Type 0
HasFirst words n rest = (first : List ℕ) × (words ≡ first ++ 32 ∷ rest) × NoSpace first × IsCount first n

-- the words are four such, with a space between each two
abbrev pub AreFour : List ℕ → Links → Type 0
AreFour words links =
    (a : List ℕ) × (b : List ℕ) × HasFirst words links.coming a × HasFirst a links.going b × AreCounts b links.members links.needed

-- the reply is `LINKS i o n w`
abbrev pub HasLinks : List ℕ → Links → Type 0
HasLinks reply links = (words : List ℕ) × (reply ≡ codes "LINKS " ++ words) × AreFour words links

-- it is one of these
abbrev pub IsLinks : List ℕ → Type 0
IsLinks reply = (links : Links) × HasLinks reply links

-- as many links come in and go out as are needed
abbrev pub IsReady : List ℕ → Type 0
IsReady reply = (links : Links) × HasLinks reply links × (links.needed ≤ links.coming) × (links.needed ≤ links.going)

-- the object of `LINKS i o n w`
abbrev pub links_object : Links → List ℕ
links_object links =
    codes "{\"state\":\"links\",\"in\":" ++ (decimal links.coming ++ (codes ",\"out\":" ++ (decimal links.going
    ++ (codes ",\"members\":" ++ (decimal links.members ++ (codes ",\"needed\":" ++ (decimal links.needed ++ codes "}")))))))

-- the object says the same as a reply that isn't of links and none to `STATE`
abbrev pub SaysPlain : List ℕ → List ℕ → Type 0
SaysPlain reply object = SaysFixed reply object ⊎ ((m d : ℕ) × HasCounts reply m d × (object ≡ up_object m d))

-- a round, and a step of it
pub record IsRoundAndStep (round step : ℕ) : Type 0 where
  pub from_one : 1 ≤ round
  pub to_last : round ≤ 32
  pub first : 1 ≤ step
  pub third : step ≤ 3

-- the words are both, with a space between them
abbrev pub AreRoundAndStep : List ℕ → ℕ → ℕ → Type 0
AreRoundAndStep words round step = AreCounts words round step × IsRoundAndStep round step

-- the reply says that the question stands so
abbrev pub SaysStage : List ℕ → Stage → Type 0
SaysStage reply Unproposed = reply ≡ codes "UNPROPOSED"
SaysStage reply Spent = reply ≡ codes "SPENT"
SaysStage reply (Open round step) = (words : List ℕ) × (reply ≡ codes "OPEN " ++ words) × AreRoundAndStep words round step

-- it is such a reply
abbrev pub IsStage : List ℕ → Type 0
IsStage reply = (stage : Stage) × SaysStage reply stage

-- the object that says the same
abbrev pub stage_object : Stage → List ℕ
stage_object Unproposed = codes "{\"unproposed\":true}"
stage_object Spent = codes "{\"spent\":true}"
stage_object (Open round step) = codes "{\"open\":true,\"round\":" ++ (decimal round ++ (codes ",\"step\":" ++ (decimal step ++ codes "}")))

abbrev pub SaysStageSame : List ℕ → List ℕ → Type 0
SaysStageSame reply object = (stage : Stage) × SaysStage reply stage × (object ≡ stage_object stage)

-- the object says the same as a reply that isn't of links
abbrev pub SaysUnlinked : List ℕ → List ℕ → Type 0
SaysUnlinked reply object = SaysPlain reply object ⊎ SaysStageSame reply object

-- the object says the same as the reply
abbrev pub SaysSame : List ℕ → List ℕ → Type 0
SaysSame reply object = SaysUnlinked reply object ⊎ ((links : Links) × HasLinks reply links × (object ≡ links_object links))

-- the line is a reply that isn't of links and none to `STATE`
abbrev pub IsPlainReply : List ℕ → Type 0
IsPlainReply line = ((object : List ℕ) × SaysFixed line object) ⊎ ((m d : ℕ) × HasCounts line m d)

-- the line is a reply that isn't of links
abbrev pub IsUnlinked : List ℕ → Type 0
IsUnlinked line = IsPlainReply line ⊎ IsStage line

-- the line is a reply
abbrev pub IsReplyLine : List ℕ → Type 0
IsReplyLine line = IsUnlinked line ⊎ IsLinks line

-- the line of a member's number and of the object that says the same as its reply, or of no reply of a desk
abbrev pub member_object : ℕ → List ℕ → List ℕ
member_object member object = codes "{\"member\":" ++ (decimal member ++ (codes ",\"reply\":" ++ (object ++ codes "}\n")))

abbrev pub IsMemberObject : ℕ → List ℕ → List ℕ → Type 0
IsMemberObject member reply text =
    ((object : List ℕ) × SaysSame reply object × (text ≡ member_object member object))
    ⊎ ((IsReplyLine reply → ⊥) × (text ≡ member_object member (codes "null")))
