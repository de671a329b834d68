use Rattle.std.proofs.Common.{inr}
use Rattle.std.proofs.lemmas.Result.{err_from_is_err_and}
use Rattle.script.proofs.Heads.{of_size, of_liars, of_seed}
use Rattle.script.proofs.head.Head.read.Goals as goal

pub returns-in_err-size-clause-err : goal.returns-in_err-size-clause-err
returns-in_err-size-clause-err c =
    let p = err_from_is_err_and c.from_residual-in_err-size.result c.from_residual-in_err-size.ensures.1 in
    rw (p.1, p.2) (inr (of_size c.args.lines.now c.in_ok-n.n c.in_ok-t.t c.in_ok-questions.questions c.in_err-size.field-0.0
    c.in_ok-n.ensures.ok c.in_ok-t.ensures.ok c.in_ok-questions.ensures.ok c.in_err-size.ensures.exact))

pub returns-in_err-liars-clause-err : goal.returns-in_err-liars-clause-err
returns-in_err-liars-clause-err c =
    let p = err_from_is_err_and c.from_residual-in_err-liars.result c.from_residual-in_err-liars.ensures.1 in
    rw (p.1, p.2) (of_liars c.args.lines.now c.in_ok-n.n c.in_ok-t.t c.in_ok-questions.questions c.in_ok-size.size c.in_err-liars.field-0.0
    c.in_ok-n.ensures.ok c.in_ok-t.ensures.ok c.in_ok-questions.ensures.ok (record { size_is = c.in_ok-size.ensures.ok; sound = c.in_ok-size.ensures.exact }) c.in_err-liars.ensures.err)

pub returns-in_err-seed-clause-err : goal.returns-in_err-seed-clause-err
returns-in_err-seed-clause-err c =
    let p = err_from_is_err_and c.from_residual-in_err-seed.result c.from_residual-in_err-seed.ensures.1 in
    rw (p.1, p.2) (of_seed c.args.lines.now c.in_ok-n.n c.in_ok-t.t c.in_ok-questions.questions c.in_ok-size.size c.in_ok-liars.liars.items c.in_err-seed.field-0.0
    c.in_ok-n.ensures.ok c.in_ok-t.ensures.ok c.in_ok-questions.ensures.ok (record { size_is = c.in_ok-size.ensures.ok; sound = c.in_ok-size.ensures.exact }) c.in_ok-liars.ensures.ok c.in_err-seed.ensures.err)
