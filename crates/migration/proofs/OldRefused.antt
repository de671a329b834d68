-- A file of version 1 is refused for one fault at most, and for none where it holds records.
use Rattle.std.proofs.Common.{◌≡◌, ◌≢◌, ℕ, List, ◌∷◌, ◌++◌, refl, sym, ◌∙◌, ap, append_assoc}
use Rattle.terms_prelude.specs.Terms.{Record, Header}
use Rattle.journal.proofs.Endings.{Ending, Closed, Cut, Bad, EndsIn, one_end}
use Rattle.migration.specs.Words.{MigrateFault, NotEmpty, NotOld, OtherHeader, BadRecord, CutShort, OldDevice, NewDevice, Memory, Full, old_header_text, batches_in, version_1, HasOldHeader, HoldsOld, GoesOldWrong, RefusesOld}
use Rattle.migration.proofs.OldOne.{one_header, behind_header}
use Rattle.migration.proofs.OldRecords.{seven}

-- the fault of an ending that isn't closed
abbrev fault_of : Ending → MigrateFault
fault_of Closed = NotEmpty
fault_of Cut = CutShort
fault_of Bad = BadRecord

-- the file ends so behind its batches
abbrev pub FileEnds : Header → Ending → List ℕ → Type 0
FileEnds h e = GoesOldWrong h (EndsIn version_1 h e)

header_gone : (h : Header) (e : Ending) (file : List ℕ) → FileEnds h e file → HasOldHeader h file
header_gone h e file ends = record {
  lawful = ends.lawful;
  begins = (batches_in version_1 ends.batches ++ ends.rest, ends.is ∙ append_assoc (old_header_text h) (batches_in version_1 ends.batches) ends.rest);
}

-- in one way
one_ending : (h : Header) (e f : Ending) (file : List ℕ) → FileEnds h e file → FileEnds h f file → e ≡ f
one_ending h e f file a b =
    one_end version_1 seven h a.batches b.batches a.rest b.rest e f a.lawful.lawful.size a.good b.good a.wrong b.wrong
    (behind_header h (batches_in version_1 a.batches ++ a.rest) (batches_in version_1 b.batches ++ b.rest)
    (sym (append_assoc (old_header_text h) (batches_in version_1 a.batches) a.rest) ∙ sym a.is ∙ b.is ∙ append_assoc (old_header_text h) (batches_in version_1 b.batches) b.rest))

closed : (h : Header) (records : List Record) (file : List ℕ) → HoldsOld h records file → FileEnds h Closed file
closed h records file holds =
    record { lawful = holds.lawful; batches = holds.batches; rest = 0 ∷ holds.rest; good = holds.good; is = holds.is; wrong = (holds.rest, refl) }

-- why a file is refused
data Why (h : Header) (file : List ℕ) (fault : MigrateFault) : Type 0 where
  NoHeader : fault ≡ NotOld → ((k : Header) → HasOldHeader k file → ⊥) → Why h file fault
  ForeignHeader : fault ≡ OtherHeader → (k : Header) → HasOldHeader k file → k ≢ h → Why h file fault
  WrongEnd : (e : Ending) → fault ≡ fault_of e → e ≢ Closed → FileEnds h e file → Why h file fault

why : (h : Header) (fault : MigrateFault) (file : List ℕ) → RefusesOld h fault file → Why h file fault
why h NotEmpty file refuses = absurd refuses
why h NotOld file refuses = NoHeader refl refuses
why h OtherHeader file refuses = ForeignHeader refl refuses.0 refuses.1 refuses.2
why h BadRecord file refuses = WrongEnd Bad refl (λ e. cc e) refuses
why h CutShort file refuses = WrongEnd Cut refl (λ e. cc e) refuses
why h OldDevice file refuses = absurd refuses
why h NewDevice file refuses = absurd refuses
why h Memory file refuses = absurd refuses
why h Full file refuses = absurd refuses

pub not_refused : (h : Header) (records : List Record) (fault : MigrateFault) (file : List ℕ) → HoldsOld h records file → RefusesOld h fault file → ⊥
not_refused h records fault file holds refuses =
    let ends = closed h records file holds in
    elim (why h fault file refuses) [
      | NoHeader is none ↦ none h (header_gone h Closed file ends)
      | ForeignHeader is k has other ↦ other (one_header k h file has (header_gone h Closed file ends))
      | WrongEnd e is open_end wrong ↦ open_end (one_ending h e Closed file wrong ends)
    ]

same_why : (h : Header) (a b : MigrateFault) (file : List ℕ) → Why h file a → Why h file b → a ≡ b
same_why h a b file (NoHeader is none) (NoHeader is' none') = is ∙ sym is'
same_why h a b file (NoHeader is none) (ForeignHeader is' k has other) = absurd (none k has)
same_why h a b file (NoHeader is none) (WrongEnd e is' open_end wrong) = absurd (none h (header_gone h e file wrong))
same_why h a b file (ForeignHeader is k has other) (NoHeader is' none) = absurd (none k has)
same_why h a b file (ForeignHeader is k has other) (ForeignHeader is' k' has' other') = is ∙ sym is'
same_why h a b file (ForeignHeader is k has other) (WrongEnd e is' open_end wrong) = absurd (other (one_header k h file has (header_gone h e file wrong)))
same_why h a b file (WrongEnd e is open_end wrong) (NoHeader is' none) = absurd (none h (header_gone h e file wrong))
same_why h a b file (WrongEnd e is open_end wrong) (ForeignHeader is' k has other) = absurd (other (one_header k h file has (header_gone h e file wrong)))
same_why h a b file (WrongEnd e is open_end wrong) (WrongEnd f is' open_end' wrong') =
    is ∙ ap (λ (end : Ending). fault_of end) (one_ending h e f file wrong wrong') ∙ sym is'

pub one_fault : (h : Header) (a b : MigrateFault) (file : List ℕ) → RefusesOld h a file → RefusesOld h b file → a ≡ b
one_fault h a b file refuses refuses' = same_why h a b file (why h a file refuses) (why h b file refuses')
