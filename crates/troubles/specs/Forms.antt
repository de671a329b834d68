-- What the lines of a script have to be.
use Rattle.std.specs.Prelude.{ℕ, zero, suc, Bool, true, false, List, Option, Some, None, if◌then◌else◌, codes}
use Rattle.process.specs.Status.{rest_of}
use Rattle.troubles.specs.declared.forms.Order.{Order}
use Rattle.troubles.specs.declared.forms.Order.TheVariants as order

-- there is something
abbrev pub is_there : Option (List ℕ) → Bool
is_there (Some rest) = true
is_there None = false

-- the line begins with the word
abbrev pub begins : List ℕ → List ℕ → Bool
begins word line = is_there (rest_of word line)

-- what a line is to be that is none of a member's events
abbrev pub network_order : List ℕ → Order
network_order line =
    if begins (codes "restart") line then order.Restart else
    if begins (codes "reset") line then order.Reset else
    if begins (codes "rounds") line then order.Rounds else
    if begins (codes "random") line then order.Random else
    if begins (codes "fair") line then order.Fair else
    order.Other

-- what a line is to be, by how it begins
abbrev pub order_of : List ℕ → Order
order_of line =
    if begins (codes "propose") line then order.Propose else
    if begins (codes "deliver") line then order.Deliver else
    if begins (codes "group") line then order.Group else
    if begins (codes "lie ") line then order.Lie else
    if begins (codes "fuse") line then order.Fuse else
    if begins (codes "crash") line then order.Crash else
    network_order line

-- which of the first five lines follows so many of them
abbrev pub head_order : ℕ → Option Order
head_order zero = Some order.Members
head_order (suc zero) = Some order.Liars
head_order (suc (suc zero)) = Some order.Questions
head_order (suc (suc (suc zero))) = Some order.Listed
head_order (suc (suc (suc (suc zero)))) = Some order.Seed
head_order more = None

-- the word with which such a line begins, or those with which an event does
abbrev pub name_text : Order → List ℕ
name_text order.Members = codes "n"
name_text order.Liars = codes "t"
name_text order.Questions = codes "questions"
name_text order.Listed = codes "liars"
name_text order.Seed = codes "seed"
name_text order.Propose = codes "propose"
name_text order.Deliver = codes "deliver"
name_text order.Group = codes "group"
name_text order.Lie = codes "lie"
name_text order.Fuse = codes "fuse"
name_text order.Crash = codes "crash"
name_text order.Fill = codes "crash"
name_text order.Restart = codes "restart"
name_text order.Reset = codes "reset"
name_text order.Rounds = codes "rounds"
name_text order.Random = codes "random"
name_text order.Fair = codes "fair"
name_text order.Other = codes "propose, deliver, group, lie, fuse, crash, restart, reset, rounds, random or fair"

-- how such a line is written
abbrev pub form_text : Order → List ℕ
form_text order.Propose = codes "an event is `propose M Q B`: member M, 0 to 255, question Q, 0 to 65535, bit B, 0 or 1"
form_text order.Deliver = codes "an event is `deliver A B next` or `deliver A B I`: members A and B, 0 to 255, number I"
form_text order.Group = codes "an event is `group A B K`: members A and B, 0 to 255, K from 1 to 256"
form_text order.Lie = codes "an event is `lie L M HEX`: members L and M, 0 to 255, an even count of hexadecimal digits"
form_text order.Fuse = codes "an event is `fuse M K` or `fuse M off`: member M, 0 to 255, number K"
form_text order.Crash = codes "an event is `crash M kept`, `crash M lost` or `crash M fill HH`: member M, 0 to 255, two hexadecimal digits HH"
form_text order.Fill = codes "an event is `crash M kept`, `crash M lost` or `crash M fill HH`: member M, 0 to 255, two hexadecimal digits HH"
form_text order.Restart = codes "an event is `restart M`: member M, 0 to 255"
form_text order.Reset = codes "an event is `reset A B`: members A and B, 0 to 255"
form_text order.Rounds = codes "an event is `rounds K`: number K"
form_text order.Random = codes "an event is `random K`: number K"
form_text order.Fair = codes "an event is `fair K`: number K"
form_text order.Members = codes "the first line is `n N`: N members, 1 to 64"
form_text order.Liars = codes "the second line is `t T`: T of them may lie, less than a third"
form_text order.Questions = codes "the third line is `questions Q`: Q questions, 1 to 4096"
form_text order.Listed = codes "the fourth line is `liars M M ..`: the members that lie, each 0 to 255, perhaps none"
form_text order.Seed = codes "the fifth line is `seed S`: a number S"
form_text order.Other = codes "this is no event"
