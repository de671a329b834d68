use Rattle.std.proofs.Common.{◌≡◌, ◌≤◌, ◌++◌, drop, length}
use Rattle.portal.specs.Tellings.{event_texts, number_after}
use Rattle.portal.proofs.streaming.chunk_with.Given as goal

-- what is written and what is left to write are all, and each event has its number
abbrev pub invariant-loop-event : goal.invariant-loop-event
invariant-loop-event l = record {
  texts : l.bytes.items ++ event_texts l.life l.last (drop l.event-index l.events) ≡ event_texts l.life l.number l.events;
  number : l.last ≡ number_after l.number l.event-index;
}
