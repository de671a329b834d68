-- The texts of events, as server-sent events have them.
use Rattle.std.specs.Prelude.{ℕ, Option, Some, None, List, ◌++◌, codes}
use Rattle.std.specs.Fmt.{decimal}
use Rattle.gateway.specs.Answers.{says_text}
use Rattle.gateway.specs.Views.{state_word}
use Rattle.gateway.specs.declared.events.Event.{Event}
use Rattle.gateway.specs.declared.events.Event.TheVariants.{Decided, Proposed, Spent, Member, Contradiction}
use Rattle.gateway.specs.declared.queries.Position.{Position}

-- the name of an event
abbrev pub event_name : Event → List ℕ
event_name (Decided question bit ms time) = codes "decision"
event_name (Proposed question) = codes "proposed"
event_name (Spent question) = codes "spent"
event_name (Member member state) = codes "member"
event_name (Contradiction member question bit) = codes "contradiction"

-- the milliseconds that a decision took, if it is known
abbrev pub ms_text : Option ℕ → List ℕ
ms_text None = codes "null"
ms_text (Some ms) = decimal ms

-- the data of an event
abbrev pub question_data : ℕ → List ℕ
question_data question = codes "{\"question\":" ++ (decimal question ++ codes "}")

abbrev pub event_data : Event → List ℕ
event_data (Decided question bit ms time) =
    codes "{\"question\":" ++ (decimal question ++ (codes ",\"bit\":" ++ (says_text (Some bit) ++ (codes ",\"ms\":" ++ (ms_text ms
    ++ (codes ",\"time\":" ++ (decimal time ++ codes "}")))))))
event_data (Proposed question) = question_data question
event_data (Spent question) = question_data question
event_data (Member member state) = codes "{\"member\":" ++ (decimal member ++ (codes ",\"state\":\"" ++ (state_word state ++ codes "\"}")))
event_data (Contradiction member question bit) =
    codes "{\"member\":" ++ (decimal member ++ (codes ",\"question\":" ++ (decimal question ++ (codes ",\"says\":" ++ (says_text (Some bit) ++ codes "}")))))

-- an event with its number, that the numbers begin anew, and that the stream lives
abbrev pub event_text : Position → Event → List ℕ
event_text at event =
    codes "id: " ++ (decimal at.life ++ (codes "." ++ (decimal at.number ++ (codes "\nevent: " ++ (event_name event
    ++ (codes "\ndata: " ++ (event_data event ++ codes "\n\n")))))))

abbrev pub restarted_text : Position → List ℕ
restarted_text at = codes "id: " ++ (decimal at.life ++ (codes "." ++ (decimal at.number ++ codes "\nevent: restarted\ndata: {}\n\n")))

abbrev pub beat_text : ℕ → List ℕ
beat_text time = codes "event: beat\ndata: {\"time\":" ++ (decimal time ++ codes "}\n\n")
