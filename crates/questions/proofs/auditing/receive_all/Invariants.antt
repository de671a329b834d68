use Rattle.std.specs.Prelude.{◌≡◌, take}
use Rattle.terms_prelude.specs.Terms.{Past}
use Rattle.questions.specs.Audits.{listed}
use Rattle.questions.specs.Words.{Has, instance_size}
use Rattle.questions.proofs.auditing.receive_all.Given as goal

abbrev pub invariant-loop-pair : goal.invariant-loop-pair
invariant-loop-pair l = record {
  size : instance_size l.shown ≡ instance_size l.initial.shown;
  has : (past : Past) → Has l.initial.shown past → Has l.shown (listed past (take l.pair-index l.pairs));
}
