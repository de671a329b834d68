-- Bytes that are a batch, and bytes that are none.
use Rattle.std.proofs.Common.{◌≡◌, ℕ, ◌+◌, ◌*◌, ◌%◌, ◌/◌, ◌≤◌, List, [], ◌∷◌, ◌++◌, ◌-◌, ◌<◌, length, get_or, take, drop, sym, ◌∙◌, ap, subst, arith, append_assoc, append-nil, length-append, min, take_at, drop_at}
use Rattle.std.proofs.lemmas.List.{take_more}
use Rattle.std.proofs.lemmas.List.Concat.{flat_map-append}
use Rattle.std.specs.List.{flat_map}
use Rattle.terms_prelude.specs.Terms.{Header, Record}
use Rattle.journal.specs.declared.fault.JournalFault.{JournalFault}
use Rattle.journal.specs.Words.{Batch, batch_bytes, header_text, record_bytes, batches_bytes, AreBatches, IsBatch, IsHeader, HasHeader, Holds, RefusesFile}
use Rattle.journal.proofs.One.{behind_header, one_header}
use Rattle.journal.proofs.Refused.{not_refused}
use Rattle.journal.proofs.Texts.{length-header_text, length-records, same_front}
use Rattle.commands.specs.Damage.{BeginsWithBatch, IsChunk, IsGoodUpTo, IsSkipped, NoBatch, byte_word, hex_words}

-- bytes with the gate and the count of a batch that begin as the batch does are the batch
same_chunk : (h : Header) (bytes x y : List ℕ) (b : Batch) → IsChunk bytes → IsBatch h b → bytes ++ x ≡ batch_bytes b ++ y → bytes ≡ batch_bytes b
same_chunk h bytes x y b c is same =
    let heads : c.gate ∷ c.high ∷ c.low ∷ (c.records ++ x) ≡ batch_bytes b ++ y = ap (λ (l : List ℕ). l ++ x) (sym c.is) ∙ same in
    let high : c.high ≡ length b.records / 256 % 256 = cc heads in
    let low : c.low ≡ length b.records % 256 = cc heads in
    let size : length bytes ≡ length (batch_bytes b) =
    ap (λ (l : List ℕ). length l) c.is ∙ omega (arith, high, low, is.few, c.whole, length-records b.records) in
    (same_front bytes (batch_bytes b) x y size same).0

-- bytes that are fewer than the count says have no batch with a gate behind it
pub too_short : (h : Header) (bytes : List ℕ) (b : Batch) (gate : ℕ) (behind : List ℕ) → IsBatch h b → bytes ≡ batch_bytes b ++ gate ∷ behind
    → length bytes ≤ 3 + 6 * (get_or bytes 1 0 * 256 + get_or bytes 2 0) → ⊥
too_short h bytes b gate behind is same short =
    let high : get_or bytes 1 0 ≡ length b.records / 256 % 256 = ap (λ (l : List ℕ). get_or l 1 0) same in
    let low : get_or bytes 2 0 ≡ length b.records % 256 = ap (λ (l : List ℕ). get_or l 2 0) same in
    let size : length bytes ≡ 3 + length (flat_map record_bytes b.records ++ gate ∷ behind) = ap (λ (l : List ℕ). length l) same ∙ omega arith in
    omega (arith, high, low, size, short, is.few, length-records b.records, length-append (flat_map record_bytes b.records) (gate ∷ behind))

-- a file that holds records behind the header's bytes, and a closed gate behind bytes that are a batch by their count: they are one
by_batches : (h : Header) (bytes rest : List ℕ) (batches : List Batch) → IsChunk bytes → AreBatches h batches → bytes ++ 0 ∷ [] ≡ batches_bytes batches ++ 0 ∷ rest
    → (b : Batch) × IsBatch h b × (bytes ≡ batch_bytes b)
by_batches h bytes rest [] c good same =
    absurd (c.opened (let heads : c.gate ∷ c.high ∷ c.low ∷ (c.records ++ 0 ∷ []) ≡ 0 ∷ rest = ap (λ (l : List ℕ). l ++ 0 ∷ []) (sym c.is) ∙ same in cc heads))
by_batches h bytes rest (b ∷ bs) c good same =
    (b, good.0, same_chunk h bytes (0 ∷ []) (batches_bytes bs ++ 0 ∷ rest) b c good.0 (same ∙ append_assoc (batch_bytes b) (batches_bytes bs) (0 ∷ rest)))

-- a journal of these bytes alone has them as its one batch
pub batch_alone : (h : Header) (records : List Record) (front bytes behind all : List ℕ) → front ≡ header_text h → IsChunk bytes → all ≡ bytes ++ behind
    → 0 < length behind → Holds h records (front ++ bytes ++ 0 ∷ []) → BeginsWithBatch h all behind
batch_alone h records front bytes behind all is c parts gated held =
    let whole : header_text h ++ (bytes ++ 0 ∷ []) ≡ header_text h ++ (batches_bytes held.batches ++ 0 ∷ held.rest) =
    sym (append_assoc (header_text h) bytes (0 ∷ [])) ∙ ap (λ (l : List ℕ). l ++ bytes ++ 0 ∷ []) (sym is) ∙ held.is
    ∙ append_assoc (header_text h) (batches_bytes held.batches) (0 ∷ held.rest) in
    let one = by_batches h bytes held.rest held.batches c held.good (behind_header h (bytes ++ 0 ∷ []) (batches_bytes held.batches ++ 0 ∷ held.rest) whole) in
    record { batch = one.0; good = one.1; is = parts ∙ ap (λ (l : List ℕ). l ++ behind) one.2; gated = gated }

-- where a journal of these bytes alone is refused, no batch with a gate behind it begins so
pub no_batch_alone : (h : Header) (fault : JournalFault) (front bytes chunk behind : List ℕ) → IsHeader h → front ≡ header_text h → IsChunk chunk
    → bytes ≡ chunk ++ behind → RefusesFile h fault (front ++ chunk ++ 0 ∷ []) → NoBatch h bytes
no_batch_alone h fault front bytes chunk behind lawful front_is c parts refused b gate after is same =
    let whole : chunk ≡ batch_bytes b = same_chunk h chunk behind (gate ∷ after) b c is (sym parts ∙ same) in
    let held : Holds h b.records (front ++ chunk ++ 0 ∷ []) = record {
      lawful = lawful;
      batches = b ∷ [];
      rest = [];
      good = (is, tt);
      is = ap (λ (l : List ℕ). l ++ chunk ++ 0 ∷ []) front_is ∙ ap (λ (l : List ℕ). header_text h ++ l ++ 0 ∷ []) (whole ∙ sym (append-nil (batch_bytes b)));
      records_are = sym (append-nil b.records);
    } in
    not_refused h b.records fault (front ++ chunk ++ 0 ∷ []) held refused

-- one batch more in front
pub skip_one : (h : Header) (bytes behind rest : List ℕ) → BeginsWithBatch h bytes behind → IsSkipped h behind rest → IsSkipped h bytes rest
skip_one h bytes behind rest first then = record {
  batches = first.batch ∷ then.batches;
  good = (first.good, then.good);
  is = first.is ∙ ap (λ (l : List ℕ). batch_bytes first.batch ++ l) then.is ∙ sym (append_assoc (batch_bytes first.batch) (batches_bytes then.batches) rest);
  gated = λ none.
      let all : behind ≡ [] = then.is ∙ (λ i. batches_bytes (then.gated none i) ++ none i) in
      let size : length behind ≡ 0 = ap (λ (l : List ℕ). length l) all in
      absurd (omega (arith, size, first.gated));
  last = then.last;
}

-- the bytes of the header, and those behind them
pub header_front : (h : Header) (file : List ℕ) (n : ℕ) → HasHeader h file → n ≡ min 24 (length file) → (take n file ≡ header_text h) × (file ≡ header_text h ++ drop n file)
header_front h file n has is =
    let behind = has.begins.0 in
    let size : length file ≡ 24 + length behind =
    ap (λ (l : List ℕ). length l) has.begins.1 ∙ omega (arith, length-append (header_text h) behind, length-header_text h) in
    let all : n ≡ 24 = omega (arith, is, size) in (
      ap (λ (k : ℕ). take k file) all ∙ ap (λ (l : List ℕ). take 24 l) has.begins.1 ∙ take_at (header_text h) behind 24 (length-header_text h),
      has.begins.1 ∙ ap (λ (l : List ℕ). header_text h ++ l) (sym (ap (λ (k : ℕ). drop k file) all ∙ ap (λ (l : List ℕ). drop 24 l) has.begins.1 ∙ drop_at (header_text h) behind 24 (length-header_text h))),
    )

-- what was skipped behind the header
pub good_up_to : (h k : Header) (file behind rest : List ℕ) (n : ℕ) → HasHeader h file → HasHeader k file → file ≡ header_text h ++ behind → IsSkipped h behind rest
    → n ≡ length file - length rest → IsGoodUpTo k n file
good_up_to h k file behind rest n has other is skipped at =
    let front = header_text h ++ batches_bytes skipped.batches in
    let whole : file ≡ front ++ rest =
    is ∙ ap (λ (l : List ℕ). header_text h ++ l) skipped.is ∙ sym (append_assoc (header_text h) (batches_bytes skipped.batches) rest) in
    subst (λ (j : Header). IsGoodUpTo j n file) (one_header h k file has other) (record {
      batches = skipped.batches;
      rest = rest;
      good = skipped.good;
      is = whole;
      place_is = omega (arith, at, ap (λ (l : List ℕ). length l) whole, length-append front rest);
      gated = skipped.gated;
      last = skipped.last;
    })

-- one byte more in digits
pub words_more : (bytes : List ℕ) (i : ℕ) (old more new : List ℕ) → i < length bytes → old ≡ hex_words (take i bytes) → more ≡ byte_word (get_or bytes i 0)
    → new ≡ old ++ more → new ≡ hex_words (take (i + 1) bytes)
words_more bytes i old more new within before word is =
    is ∙ (λ j. before j ++ word j) ∙ sym (ap hex_words (take_more bytes i 0 within) ∙ flat_map-append byte_word (take i bytes) (get_or bytes i 0 ∷ [])
    ∙ ap (λ (t : List ℕ). hex_words (take i bytes) ++ t) (append-nil (byte_word (get_or bytes i 0))))
