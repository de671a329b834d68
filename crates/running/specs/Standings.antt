-- How far a link that is written has come.
use Rattle.std.specs.Prelude.{Bool, true, false}
use Rattle.running.specs.declared.linking.Standing.{Standing}
use Rattle.running.specs.declared.linking.Standing.TheVariants.{Greeting, Answered, Up}

-- a read gave bytes
abbrev pub after_read : Standing → Standing
after_read Greeting = Answered
after_read Answered = Answered
after_read Up = Up

-- a write took bytes: the first one behind a read is to a peer that has welcomed the link
abbrev pub after_written : Standing → Standing
after_written Greeting = Greeting
after_written Answered = Up
after_written Up = Up

-- it wasn't up before, and is up now
abbrev pub has_come_up : Standing → Standing → Bool
has_come_up Greeting Up = true
has_come_up Answered Up = true
has_come_up before after = false
