use Rattle.std.proofs.Common.{ℕ}
use Rattle.std.proofs.lemmas.Result.{err_from_is_err_and}
use Rattle.journal.proofs.Steps.{batch_taken, broken, is_body}
use Rattle.journal.proofs.read.read_batch.Goals as goal

pub returns-in_err-read_records-clause-refused : goal.returns-in_err-read_records-clause-refused
returns-in_err-read_records-clause-refused g c =
    let p = err_from_is_err_and c.from_residual.result c.from_residual.ensures.1 in
    let body = is_body g.L.Layout.spelling c.width.ensures.each c.args.bytes.now c.split_at.result.0.now c.width.result c.width.ensures.width c.in-len1-up.len_at_least c.if-gate-eq0.false c.in-len2-up.len_at_least c.if-behind-size.false c.split_at.ensures.front in
    rw (p.1, p.2) (broken g.L.Layout.spelling c.width.ensures.each c.args.header.now c.args.bytes.now c.split_at.result.0.now _ c.in_err-read_records.field-0.0 body c.in_err-read_records.ensures.refused)

pub returns-clause-batch : goal.returns-clause-batch
returns-clause-batch g c =
    let added = c.in_ok-read_records.ensures.added in
    let body = is_body g.L.Layout.spelling c.width.ensures.each c.args.bytes.now c.split_at.result.0.now c.width.result c.width.ensures.width c.in-len1-up.len_at_least c.if-gate-eq0.false c.in-len2-up.len_at_least c.if-behind-size.false c.split_at.ensures.front in
    (added.0, batch_taken g.L.Layout.spelling c.width.ensures.each c.args.header.now c.args.bytes.now c.split_at.result.0.now c.split_at.result.1.now _ added.0 body c.split_at.ensures.back (λ (k : ℕ). (c.type_inv.bytes k).fits) c.if-count-eq0.false added.1, added.2)
