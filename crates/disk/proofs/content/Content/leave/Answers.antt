-- A fill keeps the length, and the file was as long at the last sync as is kept.
use Rattle.std.proofs.Common.{ℕ, sym, ◌∙◌, ap, length, length-take-le}
use Rattle.std.proofs.lemmas.List.{with_items_is}
use Rattle.disk.specs.Crash.{filled_from, left}
use Rattle.disk.specs.Content.{content_state}
use Rattle.disk.specs.declared.crash.Pick.{Pick}
use Rattle.disk.proofs.Under.{length-laid_back}
use Rattle.disk.proofs.Left.{length-filled}
use Rattle.disk.proofs.content.Content.leave.Goals as goal

pub returns-in-Fill : goal.returns-in-Fill
returns-in-Fill c =
    let content = c.args.self.now in
    let byte = c.in-Fill.byte in
    let filled = c.fill.ensures ∙ (λ i. filled_from content.synced (c.deref.ensures.value i) byte 0 (c.deref_mut.ensures.value i)) in
    with_items_is content.seen c.fill.new.seen (ap length filled ∙ length-filled content.synced content.written.items byte 0 content.seen.items ∙ sym content.seen.ok.0)
    ∙ filled
    ∙ ap (λ (n : ℕ). filled_from n content.written.items byte 0 content.seen.items) (sym (length-laid_back content.under.items _ ∙ length-take-le content.synced content.seen.items content.within))
    ∙ ap (λ (pick : Pick). left (content_state content) pick) (sym c.in-Fill.is)
