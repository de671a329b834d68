-- Events as a script says them.
use Rattle.std.specs.Prelude.{ℕ, ◌/◌, ◌%◌, false, Option, Some, None, List, [], ◌∷◌, codes}
use Rattle.std.specs.List.{flat_map}
use Rattle.std.specs.Fmt.{decimal, digit_glyph}
use Rattle.numerals.specs.Sentences.{sentence, bit_digit}
use Rattle.disk.specs.declared.crash.Pick.{Pick}
use Rattle.disk.specs.declared.crash.Pick.TheVariants.{Kept, Lost, Fill}
use Rattle.sim.specs.declared.events.Event.{Event}
use Rattle.sim.specs.declared.events.Event.TheVariants.{Propose, Deliver, DeliverAll, LieBytes, Fuse, Crash, Restart, Reset}
use Rattle.sim.specs.declared.events.Which.{Which}
use Rattle.sim.specs.declared.events.Which.TheVariants.{Next, At}

-- a byte in two lower case hexadecimal digits
abbrev pub byte_text : ℕ → List ℕ
byte_text byte = digit_glyph false (byte / 16) ∷ digit_glyph false (byte % 16) ∷ []

-- bytes in these
abbrev pub hex_text : List ℕ → List ℕ
hex_text bytes = flat_map byte_text bytes

-- which of a sender's statements
abbrev pub which_text : Which → List ℕ
which_text Next = codes "next"
which_text (At number) = decimal number

-- how many calls a fuse lets pass
abbrev pub calls_text : Option ℕ → List ℕ
calls_text None = codes "off"
calls_text (Some calls) = decimal calls

-- what a crash leaves
abbrev pub pick_text : Pick → List ℕ
pick_text Kept = codes "kept"
pick_text Lost = codes "lost"
pick_text (Fill byte) = sentence (codes "fill" ∷ byte_text byte ∷ [])

-- the event
abbrev pub event_text : Event → List ℕ
event_text (Propose member question bit toss) =
    sentence (codes "propose" ∷ decimal member ∷ decimal question ∷ decimal (bit_digit bit) ∷ [])
event_text (Deliver from to which toss) = sentence (codes "deliver" ∷ decimal from ∷ decimal to ∷ which_text which ∷ [])
event_text (DeliverAll from to count toss) = sentence (codes "group" ∷ decimal from ∷ decimal to ∷ decimal count ∷ [])
event_text (LieBytes liar to bytes toss) =
    sentence (codes "lie" ∷ decimal liar ∷ decimal to ∷ hex_text bytes.items ∷ [])
event_text (Fuse member calls) = sentence (codes "fuse" ∷ decimal member ∷ calls_text calls ∷ [])
event_text (Crash member pick) = sentence (codes "crash" ∷ decimal member ∷ pick_text pick ∷ [])
event_text (Restart member) = sentence (codes "restart" ∷ decimal member ∷ [])
event_text (Reset from to) = sentence (codes "reset" ∷ decimal from ∷ decimal to ∷ [])
