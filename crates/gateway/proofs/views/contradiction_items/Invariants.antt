use Rattle.std.proofs.Common.{◌≡◌, ◌+◌, ◌++◌, drop, string_bytes}
use Rattle.gateway.specs.Views.{contradiction_items}
use Rattle.gateway.proofs.views.contradiction_items.Given as goal

-- the items so far, and those of the questions that are left
abbrev pub invariant-loop-place : goal.invariant-loop-place
invariant-loop-place l =
    string_bytes l.text ++ contradiction_items (l.first + l.place) (drop l.place l.fn.found) ≡ contradiction_items l.first l.fn.found
