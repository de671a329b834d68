use Rattle.std.proofs.Common.{List, ℕ, ◌∷◌, subst}
use Rattle.std.proofs.lemmas.Result.{err_from_is_err_and}
use Rattle.journal.specs.Words.{TakesBatches}
use Rattle.journal.proofs.Batching.{whole_file}
use Rattle.journal.proofs.Opened.{refused_from}
use Rattle.journal.proofs.batches.check_file.Goals as goal

pub returns-in_err-check-clause-refused : goal.returns-in_err-check-clause-refused
returns-in_err-check-clause-refused c =
    let p = err_from_is_err_and c.from_residual-in_err-check.result c.from_residual-in_err-check.ensures.1 in
    rw (p.1, p.2) (λ of_file. refused_from c.args.bytes.now c.in_ok-behind.behind.now c.args.header.now c.in_err-check.field-0.0 c.in_ok-behind.ensures.header c.in_ok-behind.ensures.behind c.in_err-check.ensures.refused of_file)

pub returns-clause-whole : goal.returns-clause-whole
returns-clause-whole c =
    let all = c.in_ok-check.ensures.whole in
    let takes = subst (λ (l : List ℕ). TakesBatches c.args.header.now l all.0 (0 ∷ all.1)) c.in_ok-behind.ensures.behind all.2 in
    (all.0, all.1, whole_file c.args.header.now c.args.bytes.now all.1 all.0 c.in_ok-behind.ensures.header takes, takes)
