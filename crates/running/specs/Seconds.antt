-- The seconds of a run, and the peers that are dialled again within one.
use Rattle.std.specs.Prelude.{ℕ, ◌≡◌, ◌+◌, ◌%◌, ◌^◌, ◌==◌, ◌||◌, Bool, true, false, not, List, replicate, get_or, slice_set}
use Rattle.running.specs.declared.seconds.Call.{Call}
use Rattle.running.specs.declared.seconds.Call.TheVariants.{Silent, Due, Answered}
use Rattle.running.specs.declared.seconds.Seconds.{Seconds}

-- nobody's link has begun yet in that second
abbrev pub begun : ℕ → Seconds
begun second = record { second = second; calls = replicate 64 Silent }

-- a link of the peer begins: the first in a second is to be answered
abbrev pub after_link : Call → Call
after_link Silent = Due
after_link Due = Due
after_link Answered = Answered

-- the dialler goes on
abbrev pub after_answer : Call → Call
after_answer Silent = Silent
after_answer Due = Answered
after_answer Answered = Answered

abbrev pub is_due : Call → Bool
is_due Silent = false
is_due Due = true
is_due Answered = false

-- the pause behind a dialling in that second is over in another one, and where a link of the peer has begun since
abbrev pub is_over : Seconds → ℕ → ℕ → Bool
is_over seconds peer dialled = not (seconds.second == dialled) || is_due (get_or seconds.calls peer Silent)

-- what is known of one peer changes
abbrev pub changed : Seconds → ℕ → (Call → Call) → Seconds
changed seconds peer change = record seconds { calls = slice_set seconds.calls peer (change (get_or seconds.calls peer Silent)) }
