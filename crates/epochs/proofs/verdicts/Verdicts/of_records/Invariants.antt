use Rattle.std.proofs.Common.{ℕ, ◌≡◌, ◌<◌, ◌&&◌, filter, length, drop}
use Rattle.std.specs.Prelude.{nat_lt}
use Rattle.std.specs.Option.{is_none}
use Rattle.epochs.specs.Verdicts.{decided_bit, decided_in, first_of, first_ones, order_with, verdict_at, waits_with, was_proposed}
use Rattle.epochs.proofs.verdicts.Verdicts.of_records.Given as goal

-- a decision that is known, or else the first among the records that are left, is the first among all; so is their order
abbrev pub invariant-loop-record : goal.invariant-loop-record
invariant-loop-record l = record {
  size : length l.verdicts.cells.items ≡ l.header.size.questions;
  each : (question : ℕ) → question < l.header.size.questions →
      first_of (verdict_at l.verdicts question) (decided_bit (drop l.record-index l.records) question) ≡ decided_bit l.records question;
  waits : (question : ℕ) → question < l.header.size.questions →
      waits_with l.header.me l.verdicts question (drop l.record-index l.records)
      ≡ (is_none (decided_bit l.records question) && was_proposed l.header.me question l.records);
  order : order_with l.verdicts (drop l.record-index l.records) ≡ filter (λ question. nat_lt question l.header.size.questions) (first_ones (decided_in l.records));
}
