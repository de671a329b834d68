use Rattle.std.proofs.Common.{◌≡◌, ◌++◌, ◌∙◌, List, ℕ, [], rules, sym, ap, subst, append_assoc, append-nil}
use Rattle.std.specs.Io.KnownBytes.{Appends}
use Rattle.terms_prelude.specs.Terms.{Record}
use Rattle.commands.specs.Dumps.{records_text}
use Rattle.commands.proofs.Dumping.{appends_more, records_text-append}
use Rattle.commands.proofs.dump.print_batches.Goals as goal

pub returns-in_err-next-clause-only : goal.returns-in_err-next-clause-only
returns-in_err-next-clause-only g c = λ left has.
    let gave = c.from_residual.ensures in
    let before = c.batches.invariant left has in
    let memory = c.in_err-next.ensures.fault before.1 before.3 in
    search (rules, gave, memory)

pub batches-preserved : goal.batches-preserved
batches-preserved g c = λ left has.
    let before = c.batches.invariant left has in
    let records : List Record = c.next.new.records.items in
    let more = c.in_ok-next.ensures.some before.1 before.3 c.if-branch.true in
    let text_is : c.as_bytes.result.now ≡ records_text c.args.form records =
    c.as_bytes.ensures.value ∙ c.in_ok-text.ensures ∙ ap (λ (rs : List Record). records_text c.args.form rs) c.deref.ensures.value in
    let written = subst (λ (t : List ℕ). Appends (g.W.Write.contents c.batches.output) (g.W.Write.contents c.write_all.new.self) t) text_is c.in_ok-write_all.ensures.bytes in (
      before.0 ++ records,
      more.0,
      before.2 ∙ ap (λ (l : List Record). before.0 ++ l) more.1 ∙ sym (append_assoc before.0 records more.0),
      more.2,
      subst (λ (t : List ℕ). Appends (g.W.Write.contents c.args.output.now) (g.W.Write.contents c.write_all.new.self) t) (sym (records_text-append c.args.form before.0 records))
          (appends_more (g.W.Write.contents c.args.output.now) (g.W.Write.contents c.batches.output) (g.W.Write.contents c.write_all.new.self) (records_text c.args.form before.0) (records_text c.args.form records) before.4 written),
    )

pub returns-clause-all : goal.returns-clause-all
returns-clause-all g c = λ left has.
    let before = c.batches.invariant left has in
    let none : before.1 ≡ [] = c.in_ok-next.ensures.none before.1 before.3 c.if-branch.false in
    subst (λ (rs : List Record). Appends (g.W.Write.contents c.args.output.now) (g.W.Write.contents c.batches.output) (records_text c.args.form rs))
    (sym (before.2 ∙ ap (λ (l : List Record). before.0 ++ l) none ∙ append-nil before.0)) before.4
