use Rattle.std.proofs.Common.{rules, ◌≡◌, ◌+◌, ◌∷◌, ◌∙◌, Some, None, sym, ap, drop, List}
use Rattle.trials.specs.Notes.{NoteFields}
use Rattle.trials.specs.Judging.{fault_of, first_fault}
use Rattle.trials.proofs.Faults.{next_of, found, passed}
use Rattle.trials.proofs.judging.first_fault.Goals as goal

pub returns-in-Some : goal.returns-in-Some
returns-in-Some c =
    let notes = c.args.notes.now in
    let i = c.loop-note.note-index in
    let split : drop i notes ≡ c.note-item.result ∷ drop (i + 1) notes =
    next_of notes i c.note-item.result c.loop-note-test.true ∙ ap (λ (n : NoteFields). n ∷ drop (i + 1) notes) (sym c.note-item.is) in
    let fault : fault_of notes c.note-item.result ≡ Some c.in-Some.finding = search (rules, c.in-Some.is, c.fault_of.ensures) in
    found notes (drop (i + 1) notes) c.note-item.result c.in-Some.finding fault
    ∙ ap (λ (left : List NoteFields). first_fault notes left) (sym split)
    ∙ c.loop-note.invariant

pub loop-note-preserved : goal.loop-note-preserved
loop-note-preserved c =
    let notes = c.args.notes.now in
    let i = c.loop-note.note-index in
    let split : drop i notes ≡ c.note-item.result ∷ drop (i + 1) notes =
    next_of notes i c.note-item.result c.loop-note-test.true ∙ ap (λ (n : NoteFields). n ∷ drop (i + 1) notes) (sym c.note-item.is) in
    let fault : fault_of notes c.note-item.result ≡ None = search (rules, c.in-None.is, c.fault_of.ensures) in
    passed notes (drop (i + 1) notes) c.note-item.result fault
    ∙ ap (λ (left : List NoteFields). first_fault notes left) (sym split)
    ∙ c.loop-note.invariant
