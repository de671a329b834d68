use Rattle.std.proofs.Common.{rules, ◌≡◌, ◌+◌, ◌++◌, ◌∙◌, sym, ap, drop, List}
use Rattle.std.proofs.lemmas.List.{append_assoc}
use Rattle.numerals.specs.Sentences.{texts}
use Rattle.trials.specs.Notes.{NoteFields, one_of, note_at, notes_in}
use Rattle.trials.proofs.Noting.{one_more}
use Rattle.trials.proofs.notes.add_notes_in.Goals as goal

pub loop-place-preserved : goal.loop-place-preserved
loop-place-preserved c =
    let member = c.args.member.now in
    let words = c.args.words.now in
    let place = c.loop-place.place in
    let rest = notes_in member (texts (drop (place + 1) words)) in
    let note = one_of (note_at member (texts (drop place words))) in
    let added : c.add_note.new.notes.items ≡ c.loop-place.notes.items ++ note =
    search (rules, c.add_note.ensures, c.note_at.ensures, c.behind.ensures) in
    ap (λ (notes : List NoteFields). notes ++ rest) added
    ∙ append_assoc c.loop-place.notes.items note rest
    ∙ ap (λ (notes : List NoteFields). c.loop-place.notes.items ++ notes) (sym (one_more member words place c.loop-place-test.true))
    ∙ c.loop-place.invariant
