use Rattle.std.proofs.Common.{◌≡◌, ◌++◌, ◌∙◌, List, ℕ, rules, sym, subst}
use Rattle.std.proofs.lemmas.Result.{err_from_is_err_and}
use Rattle.std.specs.Io.KnownBytes.{Appends}
use Rattle.journal.specs.declared.fault.JournalFault.TheVariants.{Device}
use Rattle.commands.specs.declared.fault.DumpFault.TheVariants as dump
use Rattle.commands.specs.Dumps.{head_text, records_text}
use Rattle.commands.proofs.Dumping.{appends_more, dump_of_print, no_journal}
use Rattle.commands.proofs.dump.print_records.Goals as goal

-- once all of the file was looked at, no fault is one of the journal
pub returns-in_err-print_batches-clause-fault : goal.returns-in_err-print_batches-clause-fault
returns-in_err-print_batches-clause-fault g c = λ keeps named is.
    let left = c.in_ok-header.ensures.held in
    let p = err_from_is_err_and c.from_residual-in_err-print_batches.result c.from_residual-in_err-print_batches.ensures.1 in
    let same : c.in_err-print_batches.field-0.0 ≡ dump.Journal named = search (rules, p.1, p.2, is) in
    absurd (no_journal c.in_err-print_batches.field-0.0 named (c.in_err-print_batches.ensures.only left.0 left.1) same)

pub returns-in_err-print_batches-clause-nothing : goal.returns-in_err-print_batches-clause-nothing
returns-in_err-print_batches-clause-nothing g c = λ named is.
    let left = c.in_ok-header.ensures.held in
    let p = err_from_is_err_and c.from_residual-in_err-print_batches.result c.from_residual-in_err-print_batches.ensures.1 in
    let same : c.in_err-print_batches.field-0.0 ≡ dump.Journal named = search (rules, p.1, p.2, is) in
    absurd (no_journal c.in_err-print_batches.field-0.0 named (c.in_err-print_batches.ensures.only left.0 left.1) same)

pub returns-in_err-print_batches-clause-device : goal.returns-in_err-print_batches-clause-device
returns-in_err-print_batches-clause-device g c = λ is.
    let left = c.in_ok-header.ensures.held in
    let p = err_from_is_err_and c.from_residual-in_err-print_batches.result c.from_residual-in_err-print_batches.ensures.1 in
    let same : c.in_err-print_batches.field-0.0 ≡ dump.Journal Device = search (rules, p.1, p.2, is) in
    absurd (no_journal c.in_err-print_batches.field-0.0 Device (c.in_err-print_batches.ensures.only left.0 left.1) same)

pub returns-in_err-print_batches-clause-only : goal.returns-in_err-print_batches-clause-only
returns-in_err-print_batches-clause-only g c =
    let left = c.in_ok-header.ensures.held in
    let p = err_from_is_err_and c.from_residual-in_err-print_batches.result c.from_residual-in_err-print_batches.ensures.1 in
    rw (p.1, p.2) (dump_of_print c.in_err-print_batches.field-0.0 (c.in_err-print_batches.ensures.only left.0 left.1))

pub returns-clause-all : goal.returns-clause-all
returns-clause-all g c = λ keeps.
    let left = c.in_ok-header.ensures.held in
    let form = c.args.form in
    let header = c.in_ok-header.header in
    let holds = left.2 keeps in
    let head = subst (λ (t : List ℕ). Appends (g.W.Write.contents c.args.output.now) (g.W.Write.contents c.write_all.new.self) t) (c.as_bytes.ensures.value ∙ c.in_ok-head.ensures) c.in_ok-write_all.ensures.bytes in
    let all : Appends (g.W.Write.contents c.args.output.now) (g.W.Write.contents c.print_batches.new.output) (head_text form header ++ records_text form left.0) =
    appends_more (g.W.Write.contents c.args.output.now) (g.W.Write.contents c.write_all.new.self) (g.W.Write.contents c.print_batches.new.output) (head_text form header) (records_text form left.0) head (c.in_ok-print_batches.ensures.all left.0 left.1) in
    (header, left.0, holds, search (rules, all, c.in_ok-flush.ensures))
