-- Batches in front of bytes, one after another, and what goes wrong behind them.
use Rattle.std.proofs.Common.{◌≡◌, inl, inr, ℕ, ◌-◌, List, [], ◌∷◌, ◌++◌, ◌<◌, ◌+◌, length, drop, refl, sym, ◌∙◌, ap, arith, append_assoc, length-append, length-drop, drop-drop, drop_at, take-append-drop}
use Rattle.std.proofs.lemmas.List.Concat.{flat_map-append}
use Rattle.terms_prelude.specs.Terms.{Record, Header, IsSize}
use Rattle.journal.specs.Words.{JournalFault, Memory, Spelling, version_2, Batch, batch_in, batches_in, batches_bytes, batch_records, IsBatch, AreBatches, IsBadIn, IsCutIn, StumblesIn, ReadsIn, BreaksBatches, BreaksIn, TakesBatches, TakesIn, header_text, HasHeader, Holds}
use Rattle.journal.proofs.Endings.{Ending, Closed, Cut, Bad, EndsIn, one_end, one_text, rest_of_batches}
use Rattle.journal.proofs.Opened.{front_of}
use Rattle.journal.proofs.Six.{six}
use Rattle.journal.proofs.Texts.{all-append}

module _ (spelling : Spelling) where
  -- no batch at all
  pub takes_nothing : (h : Header) (bytes : List ℕ) → TakesIn spelling h bytes [] bytes
  takes_nothing h bytes = record { batches = []; good = tt; is = refl; records_are = refl }

  -- batches, and then others
  bytes_of_both : (bs cs : List Batch) (bytes rest behind : List ℕ) → bytes ≡ batches_in spelling bs ++ rest → rest ≡ batches_in spelling cs ++ behind → bytes ≡ batches_in spelling (bs ++ cs) ++ behind
  bytes_of_both bs cs bytes rest behind is is' =
      is ∙ ap (λ (l : List ℕ). batches_in spelling bs ++ l) is' ∙ sym (append_assoc (batches_in spelling bs) (batches_in spelling cs) behind)
      ∙ ap (λ (l : List ℕ). l ++ behind) (sym (flat_map-append (batch_in spelling) bs cs))

  pub takes_more : (h : Header) (bytes rest behind : List ℕ) (records added : List Record) → TakesIn spelling h bytes records rest → TakesIn spelling h rest added behind → TakesIn spelling h bytes (records ++ added) behind
  takes_more h bytes rest behind records added a b = record {
    batches = a.batches ++ b.batches;
    good = all-append (IsBatch h) a.batches b.batches a.good b.good;
    is = bytes_of_both a.batches b.batches bytes rest behind a.is b.is;
    records_are = (λ i. a.records_are i ++ b.records_are i) ∙ sym (flat_map-append (λ (batch : Batch). batch.records) a.batches b.batches);
  }

  -- batches up to a closed gate
  pub takes_all : (h : Header) (bytes rest behind : List ℕ) (records : List Record) → TakesIn spelling h bytes records rest → rest ≡ 0 ∷ behind → ReadsIn spelling h bytes (length bytes - length rest) records
  takes_all h bytes rest behind records t shut = record {
    batches = t.batches;
    rest = behind;
    good = t.good;
    is = t.is ∙ ap (λ (l : List ℕ). batches_in spelling t.batches ++ l) shut;
    gate_is = omega (arith, ap (λ (l : List ℕ). length l) t.is, length-append (batches_in spelling t.batches) rest);
    records_are = t.records_are;
  }

  -- what goes wrong behind batches
  stumbles_behind : (h : Header) (bytes rest : List ℕ) (records : List Record) (IsWrong : List ℕ → Type 0) → TakesIn spelling h bytes records rest → StumblesIn spelling h IsWrong rest → StumblesIn spelling h IsWrong bytes
  stumbles_behind h bytes rest records IsWrong t s = record {
    batches = t.batches ++ s.batches;
    rest = s.rest;
    good = all-append (IsBatch h) t.batches s.batches t.good s.good;
    is = bytes_of_both t.batches s.batches bytes rest s.rest t.is s.is;
    wrong = s.wrong;
  }

  pub breaks_behind : (h : Header) (bytes rest : List ℕ) (records : List Record) (fault : JournalFault) → TakesIn spelling h bytes records rest → BreaksIn spelling h fault rest → BreaksIn spelling h fault bytes
  breaks_behind h bytes rest records fault t (inl memory) = inl memory
  breaks_behind h bytes rest records fault t (inr (inl cut)) =
      inr (inl (cut.0, stumbles_behind h bytes rest records (IsCutIn spelling) t cut.1))
  breaks_behind h bytes rest records fault t (inr (inr bad)) =
      inr (inr (bad.0, stumbles_behind h bytes rest records (IsBadIn spelling h) t bad.1))

-- Bytes that are batches up to a closed gate: of the first batches of theirs the records are the first.
pub left_behind : (h : Header) (bytes behind shut : List ℕ) (records added : List Record) → IsSize h.size → TakesBatches h bytes records (0 ∷ shut) → TakesBatches h bytes added behind
    → (later : List Record) × (records ≡ added ++ later) × TakesBatches h behind later (0 ∷ shut)
left_behind h bytes behind shut records added size all some =
    let rest = rest_of_batches version_2 six h all.batches some.batches shut behind size all.good some.good (sym all.is ∙ some.is) in (
      batch_records rest.0,
      all.records_are ∙ rest.2 ∙ ap (λ (l : List Record). l ++ batch_records rest.0) (sym some.records_are),
      record { batches = rest.0; good = rest.1; is = rest.3; records_are = refl },
    )

-- and none of them goes wrong
wrong_nowhere : (h : Header) (bytes shut : List ℕ) (records : List Record) (end : Ending) (bs : List Batch) (rest : List ℕ) → IsSize h.size → TakesBatches h bytes records (0 ∷ shut) → AreBatches h bs → bytes ≡ batches_bytes bs ++ rest
    → EndsIn version_2 h end rest → Closed ≡ end
wrong_nowhere h bytes shut records end bs rest size all good is ends =
    one_end version_2 six h all.batches bs (0 ∷ shut) rest Closed end size all.good good (shut, refl) ends (sym all.is ∙ is)

pub breaks_nowhere : (h : Header) (bytes shut : List ℕ) (records : List Record) (fault : JournalFault) → IsSize h.size → TakesBatches h bytes records (0 ∷ shut) → BreaksBatches h fault bytes → fault ≡ Memory
breaks_nowhere h bytes shut records fault size all (inl memory) = memory
breaks_nowhere h bytes shut records fault size all (inr (inl cut)) =
    let same = wrong_nowhere h bytes shut records Cut cut.1.batches cut.1.rest size all cut.1.good cut.1.is cut.1.wrong in cc same
breaks_nowhere h bytes shut records fault size all (inr (inr bad)) =
    let same = wrong_nowhere h bytes shut records Bad bad.1.batches bad.1.rest size all bad.1.good bad.1.is bad.1.wrong in cc same

-- behind what was taken of the bytes from some place on
pub rest_at : (bytes taken behind : List ℕ) (at : ℕ) → drop at bytes ≡ taken ++ behind → length behind < length (drop at bytes) → drop (length bytes - length behind) bytes ≡ behind
rest_at bytes taken behind at is some =
    let far : length bytes - length behind ≡ at + length taken = omega (arith, length-drop at bytes, ap (λ (l : List ℕ). length l) is, length-append taken behind, some) in
    ap (λ (n : ℕ). drop n bytes) far ∙ sym (drop-drop (length taken) at bytes) ∙ ap (λ (l : List ℕ). drop (length taken) l) is ∙ drop_at taken behind (length taken) refl

-- a header, and batches up to a closed gate
pub whole_file : (h : Header) (file behind : List ℕ) (records : List Record) → HasHeader h file → TakesBatches h (drop 24 file) records (0 ∷ behind) → Holds h records file
whole_file h file behind records has takes = record {
  lawful = has.lawful;
  batches = takes.batches;
  rest = behind;
  good = takes.good;
  is = sym (take-append-drop 24 file) ∙ (λ i. front_of h file has i ++ takes.is i) ∙ sym (append_assoc (header_text h) (batches_bytes takes.batches) (0 ∷ behind));
  records_are = takes.records_are;
}

-- in front of a closed gate is none of them left
pub nothing_left : (h : Header) (bytes shut rest : List ℕ) (records : List Record) → IsSize h.size → TakesBatches h bytes records (0 ∷ shut) → bytes ≡ 0 ∷ rest → records ≡ []
nothing_left h bytes shut rest records size all is =
    all.records_are ∙ one_text version_2 six h all.batches [] shut rest size all.good tt (sym all.is ∙ is)
