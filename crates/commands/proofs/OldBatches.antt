-- Bytes that are a batch of version 1, and bytes that are none.
use Rattle.std.proofs.Common.{◌≡◌, ℕ, ◌+◌, ◌*◌, ◌%◌, ◌/◌, ◌≤◌, List, [], ◌∷◌, ◌++◌, ◌-◌, ◌<◌, length, get_or, take, drop, sym, ◌∙◌, ap, subst, arith, append_assoc, append-nil, length-append, min, take_at, drop_at}
use Rattle.std.specs.List.{flat_map}
use Rattle.terms_prelude.specs.Terms.{Header, Record}
use Rattle.journal.specs.Words.{Batch, AreBatches, IsBatch, batch_in, batches_in}
use Rattle.journal.proofs.Texts.{length-spelled, same_front}
use Rattle.migration.specs.Old.{HasOldHeader, HoldsOld, IsOldHeader, RefusesOld, old_header_text, old_record_bytes, version_1}
use Rattle.migration.specs.declared.fault.MigrateFault.{MigrateFault}
use Rattle.migration.proofs.OldOne.{behind_header, one_header}
use Rattle.migration.proofs.OldRefused.{not_refused}
use Rattle.migration.proofs.OldTexts.{length-header_text, length-record_text}
use Rattle.commands.specs.OldDamage.{BeginsWithOldBatch, IsOldChunk, IsOldGoodUpTo, IsOldSkipped, NoOldBatch}

-- a record has seven bytes
length-records : (records : List Record) → length (flat_map old_record_bytes records) ≡ 7 * length records
length-records records = length-spelled version_1 length-record_text records

-- bytes with the gate and the count of a batch that begin as the batch does are the batch
same_chunk : (h : Header) (bytes x y : List ℕ) (b : Batch) → IsOldChunk bytes → IsBatch h b → bytes ++ x ≡ batch_in version_1 b ++ y → bytes ≡ batch_in version_1 b
same_chunk h bytes x y b c is same =
    let heads : c.gate ∷ c.high ∷ c.low ∷ (c.records ++ x) ≡ batch_in version_1 b ++ y = ap (λ (l : List ℕ). l ++ x) (sym c.is) ∙ same in
    let high : c.high ≡ length b.records / 256 % 256 = cc heads in
    let low : c.low ≡ length b.records % 256 = cc heads in
    let size : length bytes ≡ length (batch_in version_1 b) =
    ap (λ (l : List ℕ). length l) c.is ∙ omega (arith, high, low, is.few, c.whole, length-records b.records) in
    (same_front bytes (batch_in version_1 b) x y size same).0

-- bytes that are fewer than the count says have no batch with a gate behind it
pub too_short : (h : Header) (bytes : List ℕ) (b : Batch) (gate : ℕ) (behind : List ℕ) → IsBatch h b → bytes ≡ batch_in version_1 b ++ gate ∷ behind
    → length bytes ≤ 3 + 7 * (get_or bytes 1 0 * 256 + get_or bytes 2 0) → ⊥
too_short h bytes b gate behind is same short =
    let high : get_or bytes 1 0 ≡ length b.records / 256 % 256 = ap (λ (l : List ℕ). get_or l 1 0) same in
    let low : get_or bytes 2 0 ≡ length b.records % 256 = ap (λ (l : List ℕ). get_or l 2 0) same in
    let size : length bytes ≡ 3 + length (flat_map old_record_bytes b.records ++ gate ∷ behind) = ap (λ (l : List ℕ). length l) same ∙ omega arith in
    omega (arith, high, low, size, short, is.few, length-records b.records, length-append (flat_map old_record_bytes b.records) (gate ∷ behind))

-- a file that holds records behind the header's bytes, and a closed gate behind bytes that are a batch by their count: they are one
by_batches : (h : Header) (bytes rest : List ℕ) (batches : List Batch) → IsOldChunk bytes → AreBatches h batches → bytes ++ 0 ∷ [] ≡ batches_in version_1 batches ++ 0 ∷ rest
    → (b : Batch) × IsBatch h b × (bytes ≡ batch_in version_1 b)
by_batches h bytes rest [] c good same =
    absurd (c.opened (let heads : c.gate ∷ c.high ∷ c.low ∷ (c.records ++ 0 ∷ []) ≡ 0 ∷ rest = ap (λ (l : List ℕ). l ++ 0 ∷ []) (sym c.is) ∙ same in cc heads))
by_batches h bytes rest (b ∷ bs) c good same =
    (b, good.0, same_chunk h bytes (0 ∷ []) (batches_in version_1 bs ++ 0 ∷ rest) b c good.0 (same ∙ append_assoc (batch_in version_1 b) (batches_in version_1 bs) (0 ∷ rest)))

-- a journal of these bytes alone has them as its one batch
pub batch_alone : (h : Header) (records : List Record) (front bytes behind all : List ℕ) → front ≡ old_header_text h → IsOldChunk bytes → all ≡ bytes ++ behind
    → 0 < length behind → HoldsOld h records (front ++ bytes ++ 0 ∷ []) → BeginsWithOldBatch h all behind
batch_alone h records front bytes behind all is c parts gated held =
    let whole : old_header_text h ++ (bytes ++ 0 ∷ []) ≡ old_header_text h ++ (batches_in version_1 held.batches ++ 0 ∷ held.rest) =
    sym (append_assoc (old_header_text h) bytes (0 ∷ [])) ∙ ap (λ (l : List ℕ). l ++ bytes ++ 0 ∷ []) (sym is) ∙ held.is
    ∙ append_assoc (old_header_text h) (batches_in version_1 held.batches) (0 ∷ held.rest) in
    let one = by_batches h bytes held.rest held.batches c held.good (behind_header h (bytes ++ 0 ∷ []) (batches_in version_1 held.batches ++ 0 ∷ held.rest) whole) in
    record { batch = one.0; good = one.1; is = parts ∙ ap (λ (l : List ℕ). l ++ behind) one.2; gated = gated }

-- where a journal of these bytes alone is refused, no batch with a gate behind it begins so
pub no_batch_alone : (h : Header) (fault : MigrateFault) (front bytes chunk behind : List ℕ) → IsOldHeader h → front ≡ old_header_text h → IsOldChunk chunk
    → bytes ≡ chunk ++ behind → RefusesOld h fault (front ++ chunk ++ 0 ∷ []) → NoOldBatch h bytes
no_batch_alone h fault front bytes chunk behind lawful front_is c parts refused b gate after is same =
    let whole : chunk ≡ batch_in version_1 b = same_chunk h chunk behind (gate ∷ after) b c is (sym parts ∙ same) in
    let held : HoldsOld h b.records (front ++ chunk ++ 0 ∷ []) = record {
      lawful = lawful;
      batches = b ∷ [];
      rest = [];
      good = (is, tt);
      is = ap (λ (l : List ℕ). l ++ chunk ++ 0 ∷ []) front_is ∙ ap (λ (l : List ℕ). old_header_text h ++ l ++ 0 ∷ []) (whole ∙ sym (append-nil (batch_in version_1 b)));
      records_are = sym (append-nil b.records);
    } in
    not_refused h b.records fault (front ++ chunk ++ 0 ∷ []) held refused

-- one batch more in front
pub skip_one : (h : Header) (bytes behind rest : List ℕ) → BeginsWithOldBatch h bytes behind → IsOldSkipped h behind rest → IsOldSkipped h bytes rest
skip_one h bytes behind rest first then = record {
  batches = first.batch ∷ then.batches;
  good = (first.good, then.good);
  is = first.is ∙ ap (λ (l : List ℕ). batch_in version_1 first.batch ++ l) then.is ∙ sym (append_assoc (batch_in version_1 first.batch) (batches_in version_1 then.batches) rest);
  gated = λ none.
      let all : behind ≡ [] = then.is ∙ (λ i. batches_in version_1 (then.gated none i) ++ none i) in
      let size : length behind ≡ 0 = ap (λ (l : List ℕ). length l) all in
      absurd (omega (arith, size, first.gated));
  last = then.last;
}

-- the bytes of the header, and those behind them
pub header_front : (h : Header) (file : List ℕ) (n : ℕ) → HasOldHeader h file → n ≡ min 24 (length file) → (take n file ≡ old_header_text h) × (file ≡ old_header_text h ++ drop n file)
header_front h file n has is =
    let behind = has.begins.0 in
    let size : length file ≡ 24 + length behind =
    ap (λ (l : List ℕ). length l) has.begins.1 ∙ omega (arith, length-append (old_header_text h) behind, length-header_text h) in
    let all : n ≡ 24 = omega (arith, is, size) in (
      ap (λ (k : ℕ). take k file) all ∙ ap (λ (l : List ℕ). take 24 l) has.begins.1 ∙ take_at (old_header_text h) behind 24 (length-header_text h),
      has.begins.1 ∙ ap (λ (l : List ℕ). old_header_text h ++ l) (sym (ap (λ (k : ℕ). drop k file) all ∙ ap (λ (l : List ℕ). drop 24 l) has.begins.1 ∙ drop_at (old_header_text h) behind 24 (length-header_text h))),
    )

-- what was skipped behind the header
pub good_up_to : (h k : Header) (file behind rest : List ℕ) (n : ℕ) → HasOldHeader h file → HasOldHeader k file → file ≡ old_header_text h ++ behind → IsOldSkipped h behind rest
    → n ≡ length file - length rest → IsOldGoodUpTo k n file
good_up_to h k file behind rest n has other is skipped at =
    let front = old_header_text h ++ batches_in version_1 skipped.batches in
    let whole : file ≡ front ++ rest =
    is ∙ ap (λ (l : List ℕ). old_header_text h ++ l) skipped.is ∙ sym (append_assoc (old_header_text h) (batches_in version_1 skipped.batches) rest) in
    subst (λ (j : Header). IsOldGoodUpTo j n file) (one_header h k file has other) (record {
      batches = skipped.batches;
      rest = rest;
      good = skipped.good;
      is = whole;
      place_is = omega (arith, at, ap (λ (l : List ℕ). length l) whole, length-append front rest);
      gated = skipped.gated;
      last = skipped.last;
    })
