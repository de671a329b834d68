use Rattle.std.proofs.Common.{◌≡◌, ◌++◌, List, rules, subst, sym}
use Rattle.std.proofs.lemmas.Result.{err_from_is_err_and}
use Rattle.terms_prelude.specs.Terms.{Record}
use Rattle.journal.specs.Words.{TakesIn}
use Rattle.journal.proofs.Batching.{takes_more, breaks_behind}
use Rattle.journal.proofs.read.read_batches.Goals as goal

pub returns-in_err-behind-clause-refused : goal.returns-in_err-behind-clause-refused
returns-in_err-behind-clause-refused g c =
    let p = err_from_is_err_and c.from_residual.result c.from_residual.ensures.1 in
    rw (p.1, p.2) (breaks_behind g.L.Layout.spelling c.args.header.now c.args.bytes.now c.batches.rest.now c.batches.records.items c.in_err-behind.field-0.0 c.batches.invariant c.in_err-behind.ensures.refused)

pub batches-preserved : goal.batches-preserved
batches-preserved g c =
    let added : (x : List Record) × TakesIn g.L.Layout.spelling c.args.header.now c.batches.rest.now x c.in-Some.behind.now × (c.read_batch.new.records.items ≡ c.batches.records.items ++ x) = search (rules, c.in_ok-behind.ensures.batch, c.in-Some.is) in
    subst (λ (l : List Record). TakesIn g.L.Layout.spelling c.args.header.now c.args.bytes.now l c.in-Some.behind.now) (sym added.2)
    (takes_more g.L.Layout.spelling c.args.header.now c.args.bytes.now c.batches.rest.now c.in-Some.behind.now c.batches.records.items added.0 c.batches.invariant added.1)
