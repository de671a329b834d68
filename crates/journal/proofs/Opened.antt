-- A file that is read, and one that is made.
use Rattle.std.proofs.Common.{◌≡◌, inl, inr, ℕ, ◌+◌, ◌≤◌, List, [], ◌∷◌, ◌++◌, length, take, drop, refl, sym, ◌∙◌, ap, subst, arith, append_assoc, length-append, take-append-drop, append-nil, length-take-le, take_at, take-take, get_or, codes}
use Rattle.std.proofs.lemmas.List.{drop_all}
use Rattle.terms_prelude.specs.Terms.{Record, Header}
use Rattle.disk.specs.Model.{State, at_rest, overwritten}
use Rattle.journal.specs.Words.{JournalFault, header_text, batches_bytes, IsHeader, HasHeader, GoesWrong, RefusesFile, IsHeld, IsOfFile, IsOldVersion, IsBad, IsCut, version_2, ReadsIn, StumblesIn, BreaksBatches}
use Rattle.journal.proofs.Headers.{mark_again}
use Rattle.journal.proofs.Texts.{length-header_text}

-- a file that begins with a header has its bytes in front
pub front_of : (h : Header) (file : List ℕ) → HasHeader h file → take 24 file ≡ header_text h
front_of h file has =
    ap (λ (l : List ℕ). take 24 l) has.begins.1 ∙ take_at (header_text h) has.begins.0 24 (length-header_text h)

-- and 24 of them at least
pub header_long : (h : Header) (file : List ℕ) → HasHeader h file → 24 ≤ length file
header_long h file has =
    omega (arith, ap (λ (l : List ℕ). length l) has.begins.1, length-append (header_text h) has.begins.0, length-header_text h)

-- a file with a header isn't of version 1
pub header_is_new : (h : Header) (file : List ℕ) → HasHeader h file → IsOldVersion file → ⊥
header_is_new h file has old =
    let mark : codes "BRACHAJ2" ≡ codes "BRACHAJ1" = sym (mark_again (take 24 file) h (front_of h file has)) ∙ take-take 8 24 file (omega arith) ∙ old.mark in
    let last : 50 ≡ 49 = ap (λ (l : List ℕ). get_or l 7 0) mark in
    omega (arith, last)

-- bytes in front that are of version 1
pub begins_old : (front file : List ℕ) → 24 ≤ length file → front ≡ take 24 file → take 8 front ≡ codes "BRACHAJ1" → IsOldVersion file
begins_old front file long is mark = record {
  long = long;
  mark = sym (take-take 8 24 file (omega arith)) ∙ ap (λ (l : List ℕ). take 8 l) (sym is) ∙ mark;
}

pub old_front : (front file : List ℕ) → front ≡ take 24 file → IsOldVersion file → take 8 front ≡ codes "BRACHAJ1"
old_front front file is old = ap (λ (l : List ℕ). take 8 l) is ∙ take-take 8 24 file (omega arith) ∙ old.mark

-- bytes in front that are a header's
pub begins_with : (h : Header) (front file : List ℕ) → IsHeader h → front ≡ header_text h → front ≡ take 24 file → HasHeader h file
begins_with h front file lawful text is = record {
  lawful = lawful;
  begins = (drop 24 file, sym (take-append-drop 24 file) ∙ ap (λ (l : List ℕ). l ++ drop 24 file) (sym is ∙ text));
}

-- what was read behind the header is held
pub held_from : (file behind : List ℕ) (header : Header) (gate : ℕ) (records : List Record) → HasHeader header file → behind ≡ drop 24 file → ReadsIn version_2 header behind gate records → IsHeld (at_rest file) header (24 + gate) records
held_from file behind header gate records has is reads = record {
  lawful = has.lawful;
  batches = reads.batches;
  rest = reads.rest;
  good = reads.good;
  on_disk = refl;
  is = sym (take-append-drop 24 file) ∙ (λ i. front_of header file has i ++ (sym is ∙ reads.is) i) ∙ sym (append_assoc (header_text header) (batches_bytes reads.batches) (0 ∷ reads.rest));
  gate = omega (arith, length-header_text header, reads.gate_is, length-append (header_text header) (batches_bytes reads.batches));
  records_are = reads.records_are;
}

-- what went wrong behind the header goes wrong in the file
pub wrong_from : (file behind : List ℕ) (header : Header) (IsWrong : List ℕ → Type 0) → HasHeader header file → behind ≡ drop 24 file → StumblesIn version_2 header IsWrong behind → GoesWrong header IsWrong file
wrong_from file behind header IsWrong has is stumbles = record {
  lawful = has.lawful;
  batches = stumbles.batches;
  rest = stumbles.rest;
  good = stumbles.good;
  is = sym (take-append-drop 24 file) ∙ (λ i. front_of header file has i ++ (sym is ∙ stumbles.is) i) ∙ sym (append_assoc (header_text header) (batches_bytes stumbles.batches) stumbles.rest);
  wrong = stumbles.wrong;
}

pub refused_from : (file behind : List ℕ) (header : Header) (fault : JournalFault) → HasHeader header file → behind ≡ drop 24 file → BreaksBatches header fault behind → IsOfFile fault → RefusesFile header fault file
refused_from file behind header fault has is (inl memory) of_file = absurd (subst IsOfFile memory of_file)
refused_from file behind header fault has is (inr (inl cut)) of_file =
    subst (λ (f : JournalFault). RefusesFile header f file) (sym cut.0) (wrong_from file behind header IsCut has is cut.1)
refused_from file behind header fault has is (inr (inr bad)) of_file =
    subst (λ (f : JournalFault). RefusesFile header f file) (sym bad.0) (wrong_from file behind header (IsBad header) has is bad.1)

-- bytes that are written into an empty file
pub over_nothing : (bytes : List ℕ) → overwritten [] 0 bytes ≡ bytes
over_nothing bytes = ap (λ (l : List ℕ). bytes ++ l) (drop_all (0 + length bytes) [] (omega arith)) ∙ append-nil bytes

-- a file of a header and a closed gate holds no record
pub made : (new : State) (header : Header) → IsHeader header → new ≡ at_rest (header_text header ++ 0 ∷ []) → IsHeld new header (length (header_text header)) []
made new header lawful is = record {
  lawful = lawful;
  batches = [];
  rest = [];
  good = tt;
  on_disk = is ∙ ap (λ (s : State). at_rest s.seen) (sym is);
  is = ap (λ (s : State). s.seen) is ∙ ap (λ (l : List ℕ). l ++ 0 ∷ []) (sym (append-nil (header_text header)));
  gate = ap (λ (l : List ℕ). length l) (sym (append-nil (header_text header)));
  records_are = refl;
}

-- a buffer of 24 bytes that was filled from the front of a file
pub filled : (zeros buf seen file : List ℕ) (n : ℕ) → length zeros ≡ 24 → n ≡ 24 → buf ≡ take (length (take n zeros)) seen → seen ≡ file → buf ++ drop n zeros ≡ take 24 file
filled zeros buf seen file n long all read same =
    let size : length (take n zeros) ≡ 24 = ap (λ (m : ℕ). length (take m zeros)) all ∙ length-take-le 24 zeros (omega (arith, long)) in
    ap (λ (l : List ℕ). buf ++ l) (drop_all n zeros (omega (arith, long, all))) ∙ append-nil buf ∙ read ∙ (λ i. take (size i) (same i))
