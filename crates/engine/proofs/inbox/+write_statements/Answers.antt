use Rattle.std.proofs.Common.{◌++◌, ◌∙◌, ℕ, List, ap, length, drop, ◌-◌, ◌*◌}
use Rattle.std.proofs.Math.ListN.{take}
use Rattle.terms_prelude.specs.Terms.{Statement}
use Rattle.statement_codec.specs.Statements.{statement_bytes}
use Rattle.wire.specs.Texts.{statements_bytes}
use Rattle.engine.proofs.Writing.{none_written, one_written}
use Rattle.engine.proofs.inbox.+write_statements.Goals as goal

pub returns-in_default : goal.returns-in_default
returns-in_default t c = none_written statement_bytes c.args.many.now c.args.out.now c.in_default.len_below

pub returns-in-len1-up : goal.returns-in-len1-up
returns-in-len1-up t c =
    let rest : List Statement = take (length c.args.many.now - 1) (drop 1 c.args.many.now) in
    ap (λ (l : List ℕ). l ++ c.write_statements.new.out) (c.copy_from_slice.ensures.after ∙ c.statement_bytes.ensures)
    ∙ ap (λ (l : List ℕ). statement_bytes c.first-item.result ++ l) (c.write_statements.ensures ∙ ap (λ (l : List ℕ). statements_bytes rest ++ drop (7 * length rest) l) c.split_at_mut-row.ensures.back)
    ∙ one_written statement_bytes c.args.many.now c.first-item.result c.args.out.now c.in-len1-up.len_at_least c.first-item.is
