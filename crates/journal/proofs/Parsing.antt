-- Any bytes are batches in a spelling and an ending, where of each record's bytes it can be told whether they are one.
use Rattle.std.proofs.Common.{◌≡◌, ◌≢◌, ◌⊎◌, inl, inr, ℕ, zero, suc, ◌+◌, ◌*◌, ◌<◌, ◌≤◌, List, [], ◌∷◌, ◌++◌, length, take, drop, refl, sym, ◌∙◌, ap, subst, arith, append_assoc, length-drop, take-append-drop, drop-drop}
use Rattle.std.proofs.Math.Nat.{mul-suc, mul-zero}
use Rattle.std.proofs.lemmas.Bool.{cases_eq, cases_lt}
use Rattle.std.proofs.Math.Seq.{take-add}
use Rattle.std.proofs.lemmas.Nat.{be_bytes_2}
use Rattle.std.specs.List.{flat_map}
use Rattle.std.specs.Int.{w16, to_be_bytes}
use Rattle.terms_prelude.specs.Terms.{Record, Header, IsSize}
use Rattle.journal.specs.Words.{Spelling, Batch, batch_records, body_in, batches_in, IsCutIn, IsBadIn, ReadsIn, StumblesIn, IsWellFormedFor, AreWellFormedFor, AreBatches, AreBytes}
use Rattle.journal.proofs.Endings.{Ending, Closed, Cut, Bad, EndsIn}
use Rattle.journal.proofs.Headers.{two_fit}
use Rattle.journal.proofs.Texts.{batch_of}

-- bytes behind others
pub bytes_behind : (a b : List ℕ) → AreBytes (a ++ b) → AreBytes b
bytes_behind [] b are = are
bytes_behind (x ∷ a) b are = bytes_behind a b are.1

module _ (spelling : Spelling) (told : (h : Header) (b : List ℕ) → IsSize h.size → ((r : Record) × IsWellFormedFor h r × (b ≡ spelling.bytes r)) ⊎ ((r : Record) → IsWellFormedFor h r → b ≢ spelling.bytes r)) where
  abbrev w : ℕ
  w = spelling.width

  -- all of so many records, or the first that is none
  are_records : (h : Header) (count : ℕ) (bytes : List ℕ) → IsSize h.size → w * count ≤ length bytes
      → ((rs : List Record) × AreWellFormedFor h rs × (length rs ≡ count) × (take (w * count) bytes ≡ flat_map spelling.bytes rs))
      ⊎ ((k : ℕ) × (k < count) × ((r : Record) → IsWellFormedFor h r → take w (drop (w * k) bytes) ≢ spelling.bytes r))
  are_records h zero bytes size long = inl ([], tt, refl, ap (λ (n : ℕ). take n bytes) (mul-zero w))
  are_records h (suc count) bytes size long =
      let far : w * suc count ≡ w + w * count = omega (arith, mul-suc w count) in
      elim (told h (take w bytes) size) [
        | inr odd ↦ inr (0, omega arith, λ r well same. odd r well (ap (λ (n : ℕ). take w (drop n bytes)) (sym (mul-zero w)) ∙ same))
        | inl one ↦ elim (are_records h count (drop w bytes) size (omega (arith, long, far, length-drop w bytes))) [
          | inl rest ↦ inl (
            one.0 ∷ rest.0,
            (one.1, rest.1),
            omega (arith, rest.2),
            ap (λ (n : ℕ). take n bytes) far ∙ take-add w (w * count) bytes ∙ (λ i. one.2 i ++ rest.3 i),
          )
          | inr odd ↦ inr (
            suc odd.0,
            omega (arith, odd.1),
            λ r well same.
                let further : w * suc odd.0 ≡ w + w * odd.0 = omega (arith, mul-suc w odd.0) in
                odd.2 r well (ap (λ (l : List ℕ). take w l) (drop-drop (w * odd.0) w bytes ∙ ap (λ (n : ℕ). drop n bytes) (sym further)) ∙ same),
          )
        ]
      ]

  -- batches, and an ending
  record Parsed (h : Header) (bytes : List ℕ) : Type 0 where
    pub batches : List Batch
    pub good : AreBatches h batches
    pub rest : List ℕ
    pub end : Ending
    pub ends : EndsIn spelling h end rest
    pub is : bytes ≡ batches_in spelling batches ++ rest

  -- no batch
  at_end : (h : Header) (bytes : List ℕ) (e : Ending) → EndsIn spelling h e bytes → Parsed h bytes
  at_end h bytes e ends = record { batches = []; good = tt; rest = bytes; end = e; ends = ends; is = refl }

  -- a batch's bytes, in front of others
  one_more : (gate high low : ℕ) (rs : List Record) (batches : List Batch) (behind left rest : List ℕ) → to_be_bytes w16 (length rs) ≡ high ∷ low ∷ [] → behind ≡ flat_map spelling.bytes rs ++ left → left ≡ batches_in spelling batches ++ rest
      → gate ∷ high ∷ low ∷ behind ≡ batches_in spelling (batch_of gate rs ∷ batches) ++ rest
  one_more gate high low rs batches behind left rest heads parts is =
      (λ i. gate ∷ (sym heads i ++ parts i)) ∙ ap (λ (l : List ℕ). (gate ∷ body_in spelling rs) ++ l) is
      ∙ sym (append_assoc (gate ∷ body_in spelling rs) (batches_in spelling batches) rest)

  -- a batch behind an open gate
  behind_gate : (h : Header) (n gate high low : ℕ) (behind : List ℕ) → IsSize h.size → gate ≢ 0 → AreBytes (gate ∷ high ∷ low ∷ behind) → length behind ≤ n → ((rest : List ℕ) → AreBytes rest → length rest ≤ n → Parsed h rest) → Parsed h (gate ∷ high ∷ low ∷ behind)
  behind_gate h n gate high low behind size opened are le next =
      let bytes : List ℕ = gate ∷ high ∷ low ∷ behind in
      let count = 256 * high + low in
      elim (cases_lt (w * count) (length behind)) [
        | inr short ↦ at_end h bytes Cut (opened, short)
        | inl whole ↦ elim (cases_eq count 0) [
          | inl none ↦ at_end h bytes Bad (record { gate = gate; high = high; low = low; behind = behind; is = refl; opened = opened; whole = whole; wrong = inl none })
          | inr some ↦ elim (are_records h count behind size (omega (arith, whole))) [
            | inr odd ↦ at_end h bytes Bad (record { gate = gate; high = high; low = low; behind = behind; is = refl; opened = opened; whole = whole; wrong = inr odd })
            | inl rs ↦
                let left : List ℕ = drop (w * count) behind in
                let parts : behind ≡ flat_map spelling.bytes rs.0 ++ left = sym (take-append-drop (w * count) behind) ∙ ap (λ (l : List ℕ). l ++ left) rs.3 in
                let after = next left (bytes_behind (flat_map spelling.bytes rs.0) left (subst (λ (l : List ℕ). AreBytes l) parts are.1.1.1)) (omega (arith, le, length-drop (w * count) behind)) in
                let heads : to_be_bytes w16 (length rs.0) ≡ high ∷ low ∷ [] = be_bytes_2 (high ∷ low ∷ []) (length rs.0) refl (two_fit high low are.1.0 are.1.1.0) (omega (arith, rs.2)) in
                record {
                  batches = batch_of gate rs.0 ∷ after.batches;
                  good = (record { opened = opened; some = omega (arith, rs.2, some); few = omega (arith, rs.2, are.1.0, are.1.1.0); good = rs.1 }, after.good);
                  rest = after.rest;
                  end = after.end;
                  ends = after.ends;
                  is = one_more gate high low rs.0 after.batches behind left after.rest heads parts after.is;
                }
          ]
        ]
      ]

  -- what stands behind an open gate
  opened_gate : (h : Header) (n gate : ℕ) (after : List ℕ) → IsSize h.size → AreBytes (gate ∷ after) → length (gate ∷ after) ≤ suc n → gate ≢ 0 → ((rest : List ℕ) → AreBytes rest → length rest ≤ n → Parsed h rest) → Parsed h (gate ∷ after)
  opened_gate h n gate [] size are le opened next = at_end h (gate ∷ []) Cut opened
  opened_gate h n gate (high ∷ []) size are le opened next = at_end h (gate ∷ high ∷ []) Cut opened
  opened_gate h n gate (high ∷ low ∷ behind) size are le opened next =
      behind_gate h n gate high low behind size opened are (omega (arith, le)) next

  -- by induction on a bound of the length
  parsed : (h : Header) (n : ℕ) (bytes : List ℕ) → IsSize h.size → AreBytes bytes → length bytes ≤ n → Parsed h bytes
  parsed h n [] size are le = at_end h [] Cut tt
  parsed h zero (gate ∷ after) size are le = absurd (omega (arith, le))
  parsed h (suc n) (gate ∷ after) size are le = elim (cases_eq gate 0) [
    | inl shut ↦ at_end h (gate ∷ after) Closed (after, ap (λ (b : ℕ). b ∷ after) shut)
    | inr opened ↦ opened_gate h n gate after size are le opened (λ rest are' le'. parsed h n rest size are' le')
  ]

  -- records up to a closed gate, or what is wrong
  abbrev Outcome : Header → List ℕ → Type 0
  Outcome h bytes = ((gate : ℕ) × (records : List Record) × ReadsIn spelling h bytes gate records) ⊎ StumblesIn spelling h (IsCutIn spelling) bytes ⊎ StumblesIn spelling h (IsBadIn spelling h) bytes

  by_end : (h : Header) (bytes : List ℕ) (batches : List Batch) (rest : List ℕ) (e : Ending) → AreBatches h batches → EndsIn spelling h e rest → bytes ≡ batches_in spelling batches ++ rest → Outcome h bytes
  by_end h bytes batches rest Closed good ends is = inl (
    length (batches_in spelling batches),
    batch_records batches,
    record {
      batches = batches;
      rest = ends.0;
      good = good;
      is = is ∙ ap (λ (l : List ℕ). batches_in spelling batches ++ l) ends.1;
      gate_is = refl;
      records_are = refl;
    },
  )
  by_end h bytes batches rest Cut good ends is =
      inr (inl (record { batches = batches; rest = rest; good = good; is = is; wrong = ends }))
  by_end h bytes batches rest Bad good ends is =
      inr (inr (record { batches = batches; rest = rest; good = good; is = is; wrong = ends }))

  pub read_or_wrong : (h : Header) (bytes : List ℕ) → IsSize h.size → AreBytes bytes → Outcome h bytes
  read_or_wrong h bytes size are =
      let p = parsed h (length bytes) bytes size are (omega arith) in
      by_end h bytes p.batches p.rest p.end p.good p.ends p.is
