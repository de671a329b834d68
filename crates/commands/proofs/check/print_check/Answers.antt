use Rattle.std.proofs.Common.{rules, ap, subst, ◌≡◌, ◌∙◌, ℕ, List, length}
use Rattle.std.specs.Io.KnownBytes.{Appends}
use Rattle.commands.specs.Objects.{check_object}
use Rattle.commands.proofs.check.print_check.Goals as goal

pub returns-clause-all : goal.returns-clause-all
returns-clause-all g c = λ keeps.
    let records = c.in_ok-held.held.items in
    let counted : c.len.result ≡ length records = search (rules, c.len.ensures) in
    let bytes : c.deref.result.now ≡ check_object c.args.settings.now (length records) = c.deref.ensures.value ∙ (c.in_ok-text.ensures ∙ ap (check_object c.args.settings.now) counted) in
    let written : Appends (g.W.Write.contents c.args.output.now) (g.W.Write.contents c.flush.new.self) c.deref.result.now = search (rules, c.in_ok-write_all.ensures.bytes, c.in_ok-flush.ensures) in
    (records, c.in_ok-held.ensures.held keeps, subst (λ (text : List ℕ). Appends (g.W.Write.contents c.args.output.now) (g.W.Write.contents c.flush.new.self) text) bytes written)
