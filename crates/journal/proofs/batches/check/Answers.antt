use Rattle.std.proofs.Common.{◌≡◌, ◌++◌, List, rules}
use Rattle.std.proofs.lemmas.Result.{err_from_is_err_and}
use Rattle.terms_prelude.specs.Terms.{Record}
use Rattle.journal.specs.Words.{TakesBatches, version_2}
use Rattle.journal.proofs.Batching.{takes_more, breaks_behind}
use Rattle.journal.proofs.batches.check.Goals as goal

pub returns-in_err-behind-clause-refused : goal.returns-in_err-behind-clause-refused
returns-in_err-behind-clause-refused c =
    let p = err_from_is_err_and c.from_residual.result c.from_residual.ensures.1 in
    let before = c.batches.invariant in
    rw (p.1, p.2) (breaks_behind version_2 c.args.header.now c.args.bytes.now c.batches.rest.now before.0 c.in_err-behind.field-0.0 before.1 c.in_err-behind.ensures.refused)

pub batches-preserved : goal.batches-preserved
batches-preserved c =
    let before = c.batches.invariant in
    let added : (x : List Record) × TakesBatches c.args.header.now c.batches.rest.now x c.in-Some.behind.now × (c.read_batch.new.records.items ≡ c.clear.new.self.items ++ x) = search (rules, c.in_ok-behind.ensures.batch, c.in-Some.is) in
    (before.0 ++ added.0, takes_more version_2 c.args.header.now c.args.bytes.now c.batches.rest.now c.in-Some.behind.now before.0 added.0 before.1 added.1)
