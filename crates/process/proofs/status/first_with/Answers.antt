use Rattle.std.proofs.Common.{ap, sym, ◌∙◌, List, [], ℕ, Bor, option_map}
use Rattle.process.proofs.Heads.{met, unmet}
use Rattle.process.proofs.status.first_with.Goals as goal

pub returns-in-Some : goal.returns-in-Some
returns-in-Some c =
    let none : Bor (List ℕ) = record { ref_ptr = (0, 0); now = [] } in
    sym (met none c.args.head.now c.args.lines.now c.loop-line.line-index _ c.in-Some.rest.now c.loop-line-test.true c.rest_of.ensures (ap (option_map (λ rest. rest.now)) c.in-Some.is)) ∙ c.loop-line.invariant

pub loop-line-preserved : goal.loop-line-preserved
loop-line-preserved c =
    let none : Bor (List ℕ) = record { ref_ptr = (0, 0); now = [] } in
    unmet none c.args.head.now c.args.lines.now c.loop-line.line-index _ c.loop-line-test.true c.rest_of.ensures (ap (option_map (λ rest. rest.now)) c.in_default.is) ∙ c.loop-line.invariant
