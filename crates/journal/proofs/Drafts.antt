-- A draft: one batch more, and its first byte written.
use Rattle.std.proofs.Common.{◌≡◌, ◌≢◌, inl, inr, ℕ, zero, suc, false, ◌+◌, ◌*◌, ◌<◌, ◌≤◌, List, [], ◌∷◌, ◌++◌, length, get_or, take, drop, refl, sym, ◌∙◌, ap, subst, arith, append_assoc, append-nil, length-append, length-drop, get_or-drop, take_at, drop_at}
use Rattle.std.proofs.lemmas.Bool.{cases_eq}
use Rattle.std.proofs.lemmas.List.{drop_more, take_all, drop_all, get_or_at}
use Rattle.terms_prelude.specs.Terms.{Record, Header}
use Rattle.disk.specs.Model.{State, MayLeave, at_rest, after_write, overwritten, is_touched}
use Rattle.journal.specs.Words.{Draft, Batch, header_text, journal_text, draft_text, batch_body, batch_bytes, batches_bytes, batch_records, new_batch, AreBatches, IsHeader, AreWellFormedFor, IsHeld, IsShut, IsCommit, IsNoJournal, IsDraftOf, HoldsAllOrNothing, draft_disk, draft_header, draft_gate, with_batch}
use Rattle.journal.proofs.Crash.{outside_one}
use Rattle.journal.proofs.Held.{left_holds}
use Rattle.journal.proofs.Texts.{texts-push, good-push, length-body}

-- the first byte of a header is a `B`
first_and_rest : (h : Header) → 66 ∷ drop 1 (header_text h) ≡ header_text h
unfolding header_text
first_and_rest h = refl

header_first : (h : Header) (rest : List ℕ) (d : ℕ) → get_or (header_text h ++ rest) 0 d ≡ 66
unfolding header_text
header_first h rest d = refl

-- a file that begins with another byte is no journal's
pub other_first : (file : List ℕ) → get_or file 0 0 ≢ 66 → IsNoJournal file
other_first file other header = (
  λ h has. other (ap (λ (l : List ℕ). get_or l 0 0) has.begins.1 ∙ header_first h has.begins.0 0),
  λ old. other (first_of file old.long ∙ ap (λ (l : List ℕ). get_or l 0 0) old.mark),
)
  where
    first_of : (file : List ℕ) → 24 ≤ length file → get_or file 0 0 ≡ get_or (take 8 file) 0 0
    first_of [] long = absurd (omega arith)
    first_of (b ∷ file) long = refl

zero_first : (file : List ℕ) → get_or file 0 0 ≡ 0 → IsNoJournal file
zero_first file first = other_first file (λ is. omega (arith, first, is))

-- a batch that is put behind the last byte, a closed gate
batch_behind : (front : List ℕ) (records : List Record) → with_batch (length front) records (front ++ 0 ∷ []) ≡ front ++ 1 ∷ (batch_body records ++ 0 ∷ [])
batch_behind front records =
    let body : List ℕ = batch_body records ++ 0 ∷ [] in
    let file : List ℕ = front ++ 0 ∷ [] in
    let n = length front in
    let long : length file ≡ n + 1 = length-append front (0 ∷ []) in
    let put : overwritten file (n + 1) body ≡ file ++ body =
    (λ i. take_all (n + 1) file (omega (arith, long)) i ++ body ++ drop_all (n + 1 + length body) file (omega (arith, long)) i) ∙ append-nil (file ++ body) in
    let shut : take n (file ++ body) ≡ front = ap (λ (l : List ℕ). take n l) (append_assoc front (0 ∷ []) body) ∙ take_at front (0 ∷ body) n refl in
    ap (λ (l : List ℕ). overwritten l n (1 ∷ [])) put
    ∙ (λ i. shut i ++ (1 ∷ []) ++ drop_at file body (n + 1) long i)
    ∙ append_assoc front (1 ∷ []) body

module _ {D : Type 0} (state : D → State) (batches : List Batch) (draft : Draft D) (is : IsDraftOf state batches draft) where
  abbrev header : Header
  header = draft_header draft

  abbrev place : ℕ
  place = draft_gate draft

  abbrev s : State
  s = state (draft_disk draft)

  -- what stands before the gate, and behind the first byte
  abbrev front : List ℕ
  front = 0 ∷ drop 1 (header_text header) ++ batches_bytes batches

  abbrev behind : List ℕ
  behind = drop 1 (header_text header) ++ batches_bytes batches ++ 0 ∷ []

  seen_is : s.seen ≡ front ++ 0 ∷ []
  seen_is = ap (λ (t : State). t.seen) is.written

  length_front : length front ≡ place
  length_front = ap (λ (l : List ℕ). length (l ++ batches_bytes batches)) (first_and_rest header) ∙ sym is.gate_is

  pub draft_shut : IsShut place s
  draft_shut = record {
    on_disk = is.written ∙ ap (λ (t : State). at_rest t.seen) (sym is.written);
    within = omega (arith, ap (λ (l : List ℕ). length l) seen_is, length-append front (0 ∷ []), length_front);
    closed = ap (λ (l : List ℕ). get_or l place 0) seen_is ∙ get_or_at front 0 [] 0 place length_front;
  }

  -- what stands before the gate begins with 0
  front_first : (rest : List ℕ) → get_or (take place s.seen ++ rest) 0 0 ≡ 0
  front_first rest =
      ap (λ (l : List ℕ). get_or (l ++ rest) 0 0) (ap (λ (l : List ℕ). take place l) seen_is ∙ take_at front (0 ∷ []) place length_front)

  -- each outcome of a commit is no journal's
  pub commit_no_journal : (body file : List ℕ) → IsCommit (take place s.seen) body file → IsNoJournal file
  commit_no_journal body file (inl closed) =
      zero_first file (ap (λ (l : List ℕ). get_or l 0 0) (closed.1 ∙ append_assoc (take place s.seen) (0 ∷ []) closed.0) ∙ front_first (0 ∷ closed.0))
  commit_no_journal body file (inr at) =
      zero_first file (ap (λ (l : List ℕ). get_or l 0 0) (at.1.1 ∙ append_assoc (take place s.seen) (at.0 ∷ body) at.1.0) ∙ front_first (at.0 ∷ (body ++ at.1.0)))

  -- and so is each file that a crash may leave
  pub draft_no_journal : (file : List ℕ) → MayLeave s file → IsNoJournal file
  draft_no_journal file may =
      let left : MayLeave (at_rest (front ++ 0 ∷ [])) file = subst (λ (t : State). MayLeave t file) is.written may in
      zero_first file (left.same_outside 0 (omega arith) refl)

  -- one batch more
  pub drafted_more : (records : List Record) → 1 ≤ length records → length records ≤ 65535 → AreWellFormedFor header records → (new : Draft D) → draft_header new ≡ header
      → state (draft_disk new) ≡ at_rest (with_batch place records s.seen) → draft_gate new ≡ place + 3 + 6 * length records → IsDraftOf state (batches ++ new_batch records ∷ []) new
  drafted_more records some few good new header_is done gate =
      let b = new_batch records in
      let back = sym header_is in
      let zeroed : List ℕ = 0 ∷ drop 1 (header_text header) in
      let longer : front ++ batch_bytes b ≡ zeroed ++ batches_bytes (batches ++ b ∷ []) =
      append_assoc zeroed (batches_bytes batches) (batch_bytes b) ∙ ap (λ (l : List ℕ). zeroed ++ l) (sym (texts-push batches b)) in
      let put : with_batch place records s.seen ≡ draft_text header (batches ++ b ∷ []) =
      (λ i. with_batch (sym length_front i) records (seen_is i)) ∙ batch_behind front records ∙ sym (append_assoc front (batch_bytes b) (0 ∷ [])) ∙ ap (λ (l : List ℕ). l ++ 0 ∷ []) longer in
      let long : length (header_text header ++ batches_bytes (batches ++ b ∷ [])) ≡ place + 3 + 6 * length records =
      ap (λ (l : List ℕ). length (l ++ batches_bytes (batches ++ b ∷ []))) (sym (first_and_rest header)) ∙ ap (λ (l : List ℕ). length l) (sym longer)
      ∙ omega (arith, length-append front (batch_bytes b), length_front, length-body records) in
      record {
        lawful = subst IsHeader back is.lawful;
        good = subst (λ (h : Header). AreBatches h (batches ++ b ∷ [])) back
            (good-push header batches b is.good (record { opened = λ e. cc e; some = some; few = few; good = good }));
        written = done ∙ ap at_rest (put ∙ ap (λ (h : Header). draft_text h (batches ++ b ∷ [])) back);
        gate_is = gate ∙ sym long ∙ ap (λ (h : Header). length (header_text h ++ batches_bytes (batches ++ b ∷ []))) back;
      }

  -- with its first byte it is a journal's file
  pub completed_text : (new : State) → new ≡ at_rest (overwritten s.seen 0 (66 ∷ [])) → new ≡ at_rest (journal_text header batches)
  completed_text new done =
      done ∙ ap (λ (l : List ℕ). at_rest (overwritten l 0 (66 ∷ []))) seen_is
      ∙ ap (λ (l : List ℕ). at_rest (l ++ batches_bytes batches ++ 0 ∷ [])) (first_and_rest header)

  whole : IsHeld (at_rest (journal_text header batches)) header place (batch_records batches)
  whole = record {
    lawful = is.lawful;
    batches = batches;
    rest = [];
    good = is.good;
    on_disk = refl;
    is = refl;
    gate = is.gate_is;
    records_are = refl;
  }

  pub completed : (new : State) → new ≡ at_rest (overwritten s.seen 0 (66 ∷ [])) → IsHeld new header place (batch_records batches)
  completed new done =
      subst (λ (t : State). IsHeld t header place (batch_records batches)) (sym (completed_text new done)) whole

  -- each outcome of writing it holds the records, or is no journal's
  pub first_leaves : (file : List ℕ) → MayLeave (after_write s 0 (66 ∷ [])) file → HoldsAllOrNothing header batches file
  first_leaves file may =
      let left : MayLeave (after_write (at_rest (0 ∷ behind)) 0 (66 ∷ [])) file = subst (λ (t : State). MayLeave (after_write t 0 (66 ∷ [])) file) is.written may in
      let rest = drop 1 file in
      let split : file ≡ get_or file 0 0 ∷ rest = drop_more file 0 0 (omega (arith, left.no_shorter)) in
      let with_first : MayLeave (at_rest (66 ∷ behind)) (66 ∷ rest) = record {
        no_shorter = omega (arith, left.no_shorter, length-drop 1 file);
        same_outside = same left;
      } in
      elim (cases_eq (get_or file 0 0) 66) [
        | inr other ↦ inl (other_first file other)
        | inl first ↦ inr (left_holds (at_rest (journal_text header batches)) header place (batch_records batches) whole file
            (subst (λ (l : List ℕ). MayLeave (at_rest (l ++ batches_bytes batches ++ 0 ∷ [])) file) (first_and_rest header)
            (subst (λ (l : List ℕ). MayLeave (at_rest (66 ∷ behind)) l) (sym (split ∙ ap (λ (b : ℕ). b ∷ rest) first)) with_first)))
      ]
    where
      same : MayLeave (after_write (at_rest (0 ∷ behind)) 0 (66 ∷ [])) file → (k : ℕ) → k < length (66 ∷ behind) → is_touched k [] ≡ false → get_or (66 ∷ drop 1 file) k 0 ≡ get_or (66 ∷ behind) k 0
      same left zero within outside = refl
      same left (suc k) within outside =
          get_or-drop 1 file k 0 ∙ ap (λ (n : ℕ). get_or file n 0) (omega arith)
          ∙ left.same_outside (suc k) (omega (arith, within)) (outside_one (suc k) 0 1 (inr (omega arith)))

-- a draft of no records
header_alone : (h : Header) → 24 ≡ length (header_text h ++ [])
unfolding header_text
header_alone h = refl

pub begun : {D : Type 0} (state : D → State) (draft : Draft D) → IsHeader (draft_header draft) → state (draft_disk draft) ≡ at_rest (draft_text (draft_header draft) []) → draft_gate draft ≡ 24 → IsDraftOf state [] draft
begun state draft lawful written gate = record { lawful = lawful; good = tt; written = written; gate_is = gate ∙ header_alone (draft_header draft) }
