-- One record more, and a batch of them, from bytes in any spelling; and what is wrong where there is none.
use Rattle.std.proofs.Common.{◌≡◌, ◌≢◌, ◌⊎◌, inl, inr, ℕ, ◌+◌, ◌-◌, ◌*◌, ◌<◌, ◌≤◌, List, [], ◌∷◌, ◌++◌, length, get_or, take, drop, refl, sym, ◌∙◌, ap, subst, arith, append_assoc, length-append, take-append-drop, append-nil, length-take-le, take_at, drop_at, take-take}
use Rattle.std.proofs.lemmas.List.{nil_from_length, take_rest, drop-take}
use Rattle.std.proofs.lemmas.List.Concat.{flat_map-append}
use Rattle.std.proofs.lemmas.Nat.{be_bytes_2}
use Rattle.std.specs.List.{flat_map}
use Rattle.std.specs.Int.{w16, to_be_bytes}
use Rattle.terms_prelude.specs.Terms.{Record, Header}
use Rattle.journal.specs.Words.{JournalFault, BadRecord, Memory, Spelling, HasWidth, batch_in, IsWellFormedFor, AreWellFormedFor, IsBadIn, AreTextIn, HasOddIn, TakesIn, BreaksIn}
use Rattle.journal.proofs.Headers.{two_fit}
use Rattle.journal.proofs.Spelled.{fits_in, no_rest, one_left, as_many}
use Rattle.journal.proofs.Texts.{length-spelled, batch_of, all-push}

-- what stands behind n bytes, as patterns of slices write it
abbrev pub past : ℕ → List ℕ → List ℕ
past n bytes = take (length bytes - n) (drop n bytes)

abbrev pub high_of : List ℕ → ℕ
high_of rest = get_or (past 1 rest) 0 0

abbrev pub low_of : List ℕ → ℕ
low_of rest = get_or (past 1 rest) 1 0

abbrev pub count_of : List ℕ → ℕ
count_of rest = high_of rest * 256 + low_of rest

abbrev pub behind_of : List ℕ → List ℕ
behind_of rest = past 2 (past 1 rest)

split_one : (rest : List ℕ) → 1 ≤ length rest → rest ≡ get_or rest 0 0 ∷ take (length rest - 1) (drop 1 rest)
split_one [] long = absurd (omega arith)
split_one (a ∷ rest) long = ap (λ (l : List ℕ). a ∷ l) (sym (take_rest (a ∷ rest) 1))

split_two : (rest : List ℕ) → 2 ≤ length rest → rest ≡ get_or rest 0 0 ∷ get_or rest 1 0 ∷ take (length rest - 2) (drop 2 rest)
split_two [] long = absurd (omega arith)
split_two (a ∷ []) long = absurd (omega arith)
split_two (a ∷ b ∷ rest) long = ap (λ (l : List ℕ). a ∷ b ∷ l) (sym (take_rest (a ∷ b ∷ rest) 2))

split_three : (rest : List ℕ) → 1 ≤ length rest → 2 ≤ length (past 1 rest) → rest ≡ get_or rest 0 0 ∷ high_of rest ∷ low_of rest ∷ behind_of rest
split_three rest long long2 =
    split_one rest long ∙ ap (λ (l : List ℕ). get_or rest 0 0 ∷ l) (split_two (past 1 rest) long2)

-- a slice in two
pub halves : (n : ℕ) (rest front after : List ℕ) → front ≡ take n rest → after ≡ drop n rest → rest ≡ front ++ after
halves n rest front after front_is after_is =
    sym (take-append-drop n rest) ∙ (λ i. sym front_is i ++ sym after_is i)

-- one record's bytes within the first ones
within : (w at n : ℕ) (bytes : List ℕ) → at + w ≤ n → take w (drop at (take n bytes)) ≡ take w (drop at bytes)
within w at n bytes fits =
    let more : n ≡ at + (n - at) = omega (arith, fits) in
    ap (λ (m : ℕ). take w (drop at (take m bytes))) more ∙ ap (λ (l : List ℕ). take w l) (drop-take at (n - at) bytes)
    ∙ take-take w (n - at) (drop at bytes) (omega (arith, fits))

module _ (spelling : Spelling) (fixed : HasWidth spelling) where
  -- so many records have been added, and this is left
  abbrev pub Added : Header → List ℕ → List ℕ → List Record → List Record → Type 0
  Added header bytes rest start now =
      (added : List Record) × AreWellFormedFor header added × (flat_map spelling.bytes added ++ rest ≡ bytes) × (now ≡ start ++ added)

  pub record_added : (header : Header) (bytes rest front after : List ℕ) (start now next : List Record) (r : Record) → Added header bytes rest start now → rest ≡ front ++ after → IsWellFormedFor header r → front ≡ spelling.bytes r → next ≡ now ++ r ∷ [] → Added header bytes after start next
  record_added header bytes rest front after start now next r so_far split well text pushed =
      let so_many : List ℕ = flat_map spelling.bytes so_far.0 in
      let one : flat_map spelling.bytes (so_far.0 ++ r ∷ []) ≡ so_many ++ front =
      flat_map-append spelling.bytes so_far.0 (r ∷ []) ∙ ap (λ (l : List ℕ). so_many ++ l) (append-nil (spelling.bytes r) ∙ sym text) in (
        so_far.0 ++ r ∷ [],
        all-push (IsWellFormedFor header) so_far.0 r so_far.1 well,
        ap (λ (l : List ℕ). l ++ after) one ∙ append_assoc so_many front after ∙ ap (λ (l : List ℕ). so_many ++ l) (sym split) ∙ so_far.2,
        pushed ∙ ap (λ (l : List Record). l ++ r ∷ []) so_far.3 ∙ append_assoc start so_far.0 (r ∷ []),
      )

  -- how many bytes were added, and are left
  lengths : (header : Header) (bytes rest : List ℕ) (start now : List Record) (count : ℕ) (so_far : Added header bytes rest start now) → length bytes ≡ spelling.width * count → spelling.width * length so_far.0 + length rest ≡ spelling.width * count
  lengths header bytes rest start now count so_far size =
      omega (arith, length-spelled spelling fixed.long so_far.0, length-append (flat_map spelling.bytes so_far.0) rest, ap (λ (l : List ℕ). length l) so_far.2, size)

  pub all_added : (header : Header) (bytes rest : List ℕ) (start now : List Record) (count : ℕ) → Added header bytes rest start now → length bytes ≡ spelling.width * count → length rest < spelling.width
      → (added : List Record) × AreTextIn spelling header bytes added × (now ≡ start ++ added)
  all_added header bytes rest start now count so_far size short =
      let sum = lengths header bytes rest start now count so_far size in
      let none : rest ≡ [] = nil_from_length rest (no_rest spelling.width (length so_far.0) count (length rest) sum short) in (
        so_far.0,
        record { good = so_far.1; is = sym so_far.2 ∙ ap (λ (l : List ℕ). flat_map spelling.bytes so_far.0 ++ l) none ∙ append-nil (flat_map spelling.bytes so_far.0) },
        so_far.3,
      )

  -- the next bytes are no record
  pub odd_record : (header : Header) (bytes rest front after : List ℕ) (start now : List Record) (count : ℕ) → Added header bytes rest start now → length bytes ≡ spelling.width * count → rest ≡ front ++ after → length front ≡ spelling.width → ((r : Record) → IsWellFormedFor header r → front ≢ spelling.bytes r)
      → HasOddIn spelling header count bytes
  odd_record header bytes rest front after start now count so_far size split front_long none =
      let w = spelling.width in
      let k = length so_far.0 in
      let long : w ≤ length rest = omega (arith, ap (λ (l : List ℕ). length l) split, length-append front after, front_long) in
      let here : take w (drop (w * k) bytes) ≡ front =
      ap (λ (l : List ℕ). take w (drop (w * k) l)) (sym so_far.2)
      ∙ ap (λ (l : List ℕ). take w l) (drop_at (flat_map spelling.bytes so_far.0) rest (w * k) (length-spelled spelling fixed.long so_far.0) ∙ split)
      ∙ take_at front after w front_long in
      record {
        place = k;
        below = one_left w k count (length rest) fixed.some (lengths header bytes rest start now count so_far size) long;
        odd = λ r well same. none r well (sym here ∙ same);
      }

  -- these are the bytes of the records of the batch in front
  pub record IsBody (bytes body : List ℕ) (size : ℕ) : Type 0 where
    pub gate : 1 ≤ length bytes
    pub opened : get_or bytes 0 0 ≢ 0
    pub count : 2 ≤ length (past 1 bytes)
    pub size_is : size ≡ spelling.width * count_of bytes
    pub enough : size < length (behind_of bytes)
    pub is : body ≡ take size (behind_of bytes)

  pub is_body : (bytes body : List ℕ) (w : ℕ) → w ≡ spelling.width → 1 ≤ length bytes → get_or bytes 0 0 ≢ 0 → 2 ≤ length (past 1 bytes) → w * count_of bytes < length (behind_of bytes) → body ≡ take (w * count_of bytes) (behind_of bytes) → IsBody bytes body (w * count_of bytes)
  is_body bytes body w width gate opened count enough is =
      record { gate = gate; opened = opened; count = count; size_is = ap (λ (n : ℕ). n * count_of bytes) width; enough = enough; is = is }

  -- one of them is none
  bad_record : (header : Header) (bytes body : List ℕ) (size : ℕ) → IsBody bytes body size → HasOddIn spelling header (count_of bytes) body → IsBadIn spelling header bytes
  bad_record header bytes body size it has =
      let w = spelling.width in
      let k = has.place in
      let turned : count_of bytes ≡ 256 * high_of bytes + low_of bytes = omega arith in
      let same = ap (λ (l : List ℕ). take w (drop (w * k) l)) it.is ∙ within w (w * k) size (behind_of bytes) (omega (arith, it.size_is, fits_in w k (count_of bytes) has.below)) in
      record {
        gate = get_or bytes 0 0;
        high = high_of bytes;
        low = low_of bytes;
        behind = behind_of bytes;
        is = split_three bytes it.gate it.count;
        opened = it.opened;
        whole = subst (λ (m : ℕ). w * m < length (behind_of bytes)) turned (subst (λ (m : ℕ). m < length (behind_of bytes)) it.size_is it.enough);
        wrong = inr (k, omega (arith, has.below), λ r well e. has.odd r well (same ∙ e));
      }

  -- why they were refused
  pub broken : (header : Header) (bytes body : List ℕ) (size : ℕ) (fault : JournalFault) → IsBody bytes body size → (fault ≡ Memory) ⊎ ((fault ≡ BadRecord) × HasOddIn spelling header (count_of bytes) body) → BreaksIn spelling header fault bytes
  broken header bytes body size fault it (inl memory) = inl memory
  broken header bytes body size fault it (inr bad) =
      inr (inr (bad.0, record { batches = []; rest = bytes; good = tt; is = refl; wrong = bad_record header bytes body size it bad.1 }))

  -- they are records, so a batch stands in front
  pub batch_taken : (header : Header) (bytes body behind : List ℕ) (size : ℕ) (added : List Record) → IsBody bytes body size → behind ≡ drop size (behind_of bytes) → ((k : ℕ) → get_or bytes k 0 < 256) → count_of bytes ≢ 0 → AreTextIn spelling header body added → TakesIn spelling header bytes added behind
  batch_taken header bytes body behind size added it behind_is small some text =
      let n = count_of bytes in
      let gate = get_or bytes 0 0 in
      let split = split_three bytes it.gate it.count in
      let byte_is : (i : ℕ) → get_or bytes i 0 ≡ get_or (gate ∷ high_of bytes ∷ low_of bytes ∷ behind_of bytes) i 0 = λ i. ap (λ (l : List ℕ). get_or l i 0) split in
      let high_small : high_of bytes < 256 = omega (arith, small 1, byte_is 1) in
      let low_small : low_of bytes < 256 = omega (arith, small 2, byte_is 2) in
      let long : length body ≡ size = ap (λ (l : List ℕ). length l) it.is ∙ length-take-le size (behind_of bytes) (omega (arith, it.enough)) in
      let as_said : length added ≡ n = as_many spelling.width (length added) n fixed.some (sym (length-spelled spelling fixed.long added) ∙ sym (ap (λ (l : List ℕ). length l) text.is) ∙ long ∙ it.size_is) in
      let count : to_be_bytes w16 (length added) ≡ high_of bytes ∷ low_of bytes ∷ [] = be_bytes_2 (high_of bytes ∷ low_of bytes ∷ []) (length added) refl (two_fit (high_of bytes) (low_of bytes) high_small low_small) (omega (arith, as_said)) in
      let b = batch_of gate added in
      record {
        batches = b ∷ [];
        good = (record { opened = it.opened; some = omega (arith, as_said, some); few = omega (arith, as_said, high_small, low_small); good = text.good }, tt);
        is = split ∙ ap (λ (l : List ℕ). gate ∷ high_of bytes ∷ low_of bytes ∷ l) (halves size (behind_of bytes) body behind it.is behind_is ∙ ap (λ (l : List ℕ). l ++ behind) text.is)
            ∙ ap (λ (l : List ℕ). gate ∷ ((l ++ flat_map spelling.bytes added) ++ behind)) (sym count)
            ∙ ap (λ (l : List ℕ). l ++ behind) (sym (append-nil (batch_in spelling b)));
        records_are = sym (append-nil added);
      }
