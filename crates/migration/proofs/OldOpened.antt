-- A file of version 1 that is read.
use Rattle.std.proofs.Common.{◌≡◌, ◌⊎◌, inl, inr, ℕ, ◌≤◌, true, List, [], ◌∷◌, ◌++◌, length, take, drop, refl, sym, ◌∙◌, ap, subst, arith, append_assoc, length-append, take-append-drop, take_at, take-take}
use Rattle.terms_prelude.specs.Terms.{Record, Header}
use Rattle.migration.specs.Words.{Memory, Batch, batch_records, batches_in, version_1, AreBatches, IsWellFormedFor, AreWellFormedFor, HoldsOld, old_header_text, IsOldHeader, IsBadIn, IsCutIn, HasOldHeader, GoesOldWrong, RefusesOld, IsOfOldFile, ReadsIn, StumblesIn, BreaksIn, old_fault_of}
use Rattle.journal.proofs.Headers.{header_eq, same_by}
use Rattle.journal.proofs.Texts.{all-append}
use Rattle.journal.specs.File.{IsOldVersion}
use Rattle.journal.specs.declared.fault.JournalFault.{JournalFault}
use Rattle.migration.proofs.OldHeaders.{mark_of}
use Rattle.migration.proofs.OldTexts.{length-header_text}

-- a file that begins with a header has its bytes in front
pub front_of : (h : Header) (file : List ℕ) → HasOldHeader h file → take 24 file ≡ old_header_text h
front_of h file has =
    ap (λ (l : List ℕ). take 24 l) has.begins.1 ∙ take_at (old_header_text h) has.begins.0 24 (length-header_text h)

-- and 24 of them at least
pub header_long : (h : Header) (file : List ℕ) → HasOldHeader h file → 24 ≤ length file
header_long h file has =
    omega (arith, ap (λ (l : List ℕ). length l) has.begins.1, length-append (old_header_text h) has.begins.0, length-header_text h)

-- bytes in front that are a header's
pub begins_with : (h : Header) (front file : List ℕ) → IsOldHeader h → front ≡ old_header_text h → front ≡ take 24 file → HasOldHeader h file
begins_with h front file lawful text is = record {
  lawful = lawful;
  begins = (drop 24 file, sym (take-append-drop 24 file) ∙ ap (λ (l : List ℕ). l ++ drop 24 file) (sym is ∙ text));
}

pub begins_with_same : (h k : Header) (front file : List ℕ) → IsOldHeader h → front ≡ old_header_text h → front ≡ take 24 file → header_eq h k ≡ true → HasOldHeader k file
begins_with_same h k front file lawful text is test =
    subst (λ (x : Header). HasOldHeader x file) (same_by h k test) (begins_with h front file lawful text is)

-- what was read behind the header is held
pub held_from : (file behind : List ℕ) (header : Header) (gate : ℕ) (records : List Record) → HasOldHeader header file → behind ≡ drop 24 file → ReadsIn version_1 header behind gate records → HoldsOld header records file
held_from file behind header gate records has is reads = record {
  lawful = has.lawful;
  batches = reads.batches;
  rest = reads.rest;
  good = reads.good;
  is = sym (take-append-drop 24 file) ∙ (λ i. front_of header file has i ++ (sym is ∙ reads.is) i) ∙ sym (append_assoc (old_header_text header) (batches_in version_1 reads.batches) (0 ∷ reads.rest));
  records_are = reads.records_are;
}

-- the records of batches are well formed
records_good : (header : Header) (batches : List Batch) → AreBatches header batches → AreWellFormedFor header (batch_records batches)
records_good header [] good = tt
records_good header (b ∷ bs) good = all-append (IsWellFormedFor header) b.records (batch_records bs) good.0.good (records_good header bs good.1)

pub read_good : (header : Header) (bytes : List ℕ) (gate : ℕ) (records : List Record) → ReadsIn version_1 header bytes gate records → AreWellFormedFor header records
read_good header bytes gate records reads =
    subst (λ (l : List Record). AreWellFormedFor header l) (sym reads.records_are) (records_good header reads.batches reads.good)

-- what went wrong behind the header goes wrong in the file
pub wrong_from : (file behind : List ℕ) (header : Header) (IsWrong : List ℕ → Type 0) → HasOldHeader header file → behind ≡ drop 24 file → StumblesIn version_1 header IsWrong behind → GoesOldWrong header IsWrong file
wrong_from file behind header IsWrong has is stumbles = record {
  lawful = has.lawful;
  batches = stumbles.batches;
  rest = stumbles.rest;
  good = stumbles.good;
  is = sym (take-append-drop 24 file) ∙ (λ i. front_of header file has i ++ (sym is ∙ stumbles.is) i) ∙ sym (append_assoc (old_header_text header) (batches_in version_1 stumbles.batches) stumbles.rest);
  wrong = stumbles.wrong;
}

pub refused_from : (file behind : List ℕ) (header : Header) (fault : JournalFault) → HasOldHeader header file → behind ≡ drop 24 file → BreaksIn version_1 header fault behind → IsOfOldFile (old_fault_of fault) → RefusesOld header (old_fault_of fault) file
refused_from file behind header fault has is (inl memory) of_file =
    absurd (subst (λ (f : JournalFault). IsOfOldFile (old_fault_of f)) memory of_file)
refused_from file behind header fault has is (inr (inl cut)) of_file =
    subst (λ (f : JournalFault). RefusesOld header (old_fault_of f) file) (sym cut.0) (wrong_from file behind header (IsCutIn version_1) has is cut.1)
refused_from file behind header fault has is (inr (inr bad)) of_file =
    subst (λ (f : JournalFault). RefusesOld header (old_fault_of f) file) (sym bad.0) (wrong_from file behind header (IsBadIn version_1 header) has is bad.1)

-- and it is a fault of the file, or want of memory
pub broken_so : (header : Header) (behind : List ℕ) (fault : JournalFault) → BreaksIn version_1 header fault behind → IsOfOldFile (old_fault_of fault) ⊎ (old_fault_of fault ≡ Memory)
broken_so header behind fault (inl memory) = inr (ap old_fault_of memory)
broken_so header behind fault (inr (inl cut)) = inl (subst (λ (f : JournalFault). IsOfOldFile (old_fault_of f)) (sym cut.0) tt)
broken_so header behind fault (inr (inr bad)) = inl (subst (λ (f : JournalFault). IsOfOldFile (old_fault_of f)) (sym bad.0) tt)

-- a file that begins with a header is of version 1
pub is_named : (h : Header) (file : List ℕ) → HasOldHeader h file → IsOldVersion file
is_named h file has = record {
  long = header_long h file has;
  mark = sym (take-take 8 24 file (omega arith)) ∙ ap (λ (l : List ℕ). take 8 l) (front_of h file has) ∙ mark_of h;
}
