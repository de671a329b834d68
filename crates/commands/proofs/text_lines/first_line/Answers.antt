use Rattle.std.proofs.Common.{rules, get_or, List, [], ℕ, Bor}
use Rattle.commands.specs.TextLines.{SaysKey}
use Rattle.commands.proofs.Finding.{first_at, none_more}
use Rattle.commands.proofs.text_lines.first_line.Goals as goal

pub returns-then-says-clause-first : goal.returns-then-says-clause-first
returns-then-says-clause-first c =
    let none : Bor (List ℕ) = record { ref_ptr = (0, 0); now = [] } in
    let is : SaysKey c.args.name.now (get_or c.args.lines.now c.loop-index.index none).now = search (rules, c.says.ensures, c.if-says.true) in
    first_at (SaysKey c.args.name.now) none c.args.lines.now c.loop-index.index c.loop-index-test.true c.loop-index.invariant is

pub loop-index-preserved : goal.loop-index-preserved
loop-index-preserved c =
    let none : Bor (List ℕ) = record { ref_ptr = (0, 0); now = [] } in
    let not : SaysKey c.args.name.now (get_or c.args.lines.now c.loop-index.index none).now → ⊥ = search (rules, c.says.ensures, c.if-says.false) in
    none_more (SaysKey c.args.name.now) none c.args.lines.now c.loop-index.index c.loop-index-test.true c.loop-index.invariant not
