use Rattle.std.proofs.Common.{◌≡◌, ◌∙◌, ℕ, List, rules, sym, ap, subst}
use Rattle.std.specs.Io.KnownBytes.{Appends}
use Rattle.terms_prelude.specs.Terms.{Record}
use Rattle.journal.specs.File.{Holds}
use Rattle.commands.specs.Dumps.{count_text}
use Rattle.commands.proofs.dump.print_count.Goals as goal

pub returns-clause-all : goal.returns-clause-all
returns-clause-all g c = λ keeps.
    let left = c.in_ok-_header.ensures.held in
    let records = c.in_ok-records.records.items in
    let holds = subst (λ (l : List Record). Holds c.in_ok-_header._header l (g.D.Disk.state c.args.disk.now).seen) (sym (c.in_ok-records.ensures left.0 left.1)) (left.2 keeps) in
    let bytes : c.as_bytes.result.now ≡ count_text c.args.form records =
    c.as_bytes.ensures.value ∙ (c.in_ok-text.ensures ∙ ap (λ (l : List Record). count_text c.args.form l) c.deref.ensures.value) in
    let written : Appends (g.W.Write.contents c.args.output.now) (g.W.Write.contents c.flush.new.self) c.as_bytes.result.now = search (rules, c.in_ok-write_all.ensures.bytes, c.in_ok-flush.ensures) in
    (c.in_ok-_header._header, records, holds, subst (λ (t : List ℕ). Appends (g.W.Write.contents c.args.output.now) (g.W.Write.contents c.flush.new.self) t) bytes written)
