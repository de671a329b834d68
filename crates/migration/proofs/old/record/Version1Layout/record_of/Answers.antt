use Rattle.std.proofs.Common.{◌≡◌, ⊎_elim, List, ℕ, ◌∙◌, ap, arith}
use Rattle.journal.proofs.Records.{if_some_more}
use Rattle.migration.specs.Words.{record_bytes, old_record_bytes, IsWellFormedFor}
use Rattle.migration.proofs.OldRecords.{renewed, renewed_text, last_small, from_renewed}
use Rattle.migration.proofs.old.record.Version1Layout.record_of.Goals as goal

pub returns-then-step-gt15-clause-none : goal.returns-then-step-gt15-clause-none
returns-then-step-gt15-clause-none c none r well same =
    let small = last_small c.args.bytes.now c.args.header.now r well same in
    ⊎_elim (λ step. omega (arith, step, small.0)) (λ value. omega (arith, value.1, small.1)) c.then-step-gt15.either

pub returns-clause-some : goal.returns-clause-some
returns-clause-some c =
    let b : List ℕ = c.args.bytes.now in
    if_some_more (λ r. IsWellFormedFor c.args.header.now r × (renewed b ≡ record_bytes r)) (λ r. IsWellFormedFor c.args.header.now r × (b ≡ old_record_bytes r))
    (λ r has. (has.0, from_renewed b r c.requires (omega (arith, c.if-step-gt15.false)) (omega (arith, c.if-value-gt15.false)) has.1))
    c.record_of.result c.record_of.ensures.some

pub returns-clause-none : goal.returns-clause-none
returns-clause-none c none r well same =
    c.record_of.ensures.none none r well (ap renewed same ∙ renewed_text r)
