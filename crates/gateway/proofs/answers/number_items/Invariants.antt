use Rattle.std.proofs.Common.{◌≡◌, string_bytes, take}
use Rattle.gateway.specs.Answers.{number_items}
use Rattle.gateway.proofs.answers.number_items.Given as goal

-- the numbers so far are written
abbrev pub invariant-loop-number : goal.invariant-loop-number
invariant-loop-number l = string_bytes l.text ≡ number_items (take l.number-index l.numbers)
