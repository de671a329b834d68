-- Bytes of batches in any spelling are read in one way, and end in one way.
use Rattle.std.proofs.Common.{◌≡◌, ◌≢◌, inl, inr, ℕ, zero, suc, ◌+◌, ◌*◌, ◌/◌, ◌%◌, ◌<◌, ◌≤◌, List, [], ◌∷◌, ◌++◌, length, take, drop, refl, sym, ◌∙◌, ap, subst, arith, append_assoc, length-append, take_at, drop_at, drop-drop}
use Rattle.std.proofs.Math.Nat.{mul-suc, mul-zero}
use Rattle.std.proofs.lemmas.List.{nil_from_length}
use Rattle.std.specs.List.{flat_map}
use Rattle.terms_prelude.specs.Terms.{Record, Header, IsSize}
use Rattle.journal.specs.Words.{Spelling, Batch, batch_in, batches_in, batch_records, IsWellFormedFor, AreWellFormedFor, IsBatch, AreBatches, IsCutIn, IsBadIn}
use Rattle.journal.proofs.Spelled.{IsSpelling}
use Rattle.journal.proofs.Texts.{length-spelled, same_front}

-- how bytes behind the last batch stand: a closed gate, cut short, or bad
pub data Ending : Type 0 where
  Closed : Ending
  Cut : Ending
  Bad : Ending

abbrev pub EndsIn : Spelling → Header → Ending → List ℕ → Type 0
EndsIn spelling h Closed x = (rest : List ℕ) × (x ≡ 0 ∷ rest)
EndsIn spelling h Cut x = IsCutIn spelling x
EndsIn spelling h Bad x = IsBadIn spelling h x

-- two lists that are equal to a third
alike : (x y z : List ℕ) → x ≡ y → x ≡ z → y ≡ z
alike x y z a b = sym a ∙ b

module _ (spelling : Spelling) (is_spelling : IsSpelling spelling) where
  same_records : (h : Header) (rs qs : List Record) → IsSize h.size → AreWellFormedFor h rs → AreWellFormedFor h qs → length rs ≡ length qs → flat_map spelling.bytes rs ≡ flat_map spelling.bytes qs → rs ≡ qs
  same_records h [] [] lawful are are' size same = refl
  same_records h [] (q ∷ qs) lawful are are' size same = absurd (omega (arith, size))
  same_records h (r ∷ rs) [] lawful are are' size same = absurd (omega (arith, size))
  same_records h (r ∷ rs) (q ∷ qs) lawful are are' size same =
      let parts = same_front (spelling.bytes r) (spelling.bytes q) (flat_map spelling.bytes rs) (flat_map spelling.bytes qs) (is_spelling.fixed.long r ∙ sym (is_spelling.fixed.long q)) same in
      (λ i. is_spelling.one h r q lawful are.0 are'.0 parts.0 i ∷ same_records h rs qs lawful are.1 are'.1 (omega (arith, size)) parts.1 i)

  -- one batch in front: its records, and what stands behind it
  same_batch : (h : Header) (b c : Batch) (x y : List ℕ) → IsSize h.size → IsBatch h b → IsBatch h c → batch_in spelling b ++ x ≡ batch_in spelling c ++ y → (b.records ≡ c.records) × (x ≡ y)
  same_batch h b c x y lawful is is' same =
      let high : length b.records / 256 % 256 ≡ length c.records / 256 % 256 = cc same in
      let low : length b.records % 256 ≡ length c.records % 256 = cc same in
      let size : length b.records ≡ length c.records = omega (arith, high, low, is.few, is'.few) in
      let behind : flat_map spelling.bytes b.records ++ x ≡ flat_map spelling.bytes c.records ++ y = cc same in
      let parts = same_front (flat_map spelling.bytes b.records) (flat_map spelling.bytes c.records) x y (length-spelled spelling is_spelling.fixed.long b.records ∙ ap (λ (n : ℕ). spelling.width * n) size ∙ sym (length-spelled spelling is_spelling.fixed.long c.records)) behind in
      (same_records h b.records c.records lawful is.good is'.good size parts.0, parts.1)

  -- the k-th record's bytes
  record_of_batch : (h : Header) (rs : List Record) (k : ℕ) (z : List ℕ) → AreWellFormedFor h rs → k < length rs → (r : Record) × IsWellFormedFor h r × (take spelling.width (drop (spelling.width * k) (flat_map spelling.bytes rs ++ z)) ≡ spelling.bytes r)
  record_of_batch h [] k z good below = absurd (omega (arith, below))
  record_of_batch h (r ∷ rs) zero z good below = (
    r,
    good.0,
    ap (λ (n : ℕ). take spelling.width (drop n ((spelling.bytes r ++ flat_map spelling.bytes rs) ++ z))) (mul-zero spelling.width)
        ∙ ap (λ (l : List ℕ). take spelling.width l) (append_assoc (spelling.bytes r) (flat_map spelling.bytes rs) z) ∙ take_at (spelling.bytes r) (flat_map spelling.bytes rs ++ z) spelling.width (is_spelling.fixed.long r),
  )
  record_of_batch h (r ∷ rs) (suc k) z good below =
      let next = record_of_batch h rs k z good.1 (omega (arith, below)) in
      let far : spelling.width * suc k ≡ spelling.width + spelling.width * k = omega (arith, mul-suc spelling.width k) in (
        next.0,
        next.1,
        ap (λ (n : ℕ). take spelling.width (drop n ((spelling.bytes r ++ flat_map spelling.bytes rs) ++ z))) far
            ∙ ap (λ (l : List ℕ). take spelling.width l) (sym (drop-drop (spelling.width * k) spelling.width ((spelling.bytes r ++ flat_map spelling.bytes rs) ++ z))
            ∙ ap (λ (l : List ℕ). drop (spelling.width * k) l) (ap (λ (l : List ℕ). drop spelling.width l) (append_assoc (spelling.bytes r) (flat_map spelling.bytes rs) z) ∙ drop_at (spelling.bytes r) (flat_map spelling.bytes rs ++ z) spelling.width (is_spelling.fixed.long r)))
            ∙ next.2,
      )

  -- bytes that are a record are one that is not odd
  not_odd : (h : Header) (k : ℕ) (behind whole : List ℕ) → behind ≡ whole → ((r : Record) → IsWellFormedFor h r → take spelling.width (drop (spelling.width * k) behind) ≢ spelling.bytes r) → (r : Record) × IsWellFormedFor h r × (take spelling.width (drop (spelling.width * k) whole) ≡ spelling.bytes r) → ⊥
  not_odd h k behind whole same odd is =
      odd is.0 is.1 (ap (λ (l : List ℕ). take spelling.width (drop (spelling.width * k) l)) same ∙ is.2)

  -- where a batch stands in front of an ending, it is cut short right behind it
  batch_ends : (h : Header) (b : Batch) (z : List ℕ) (end : Ending) (x : List ℕ) → IsBatch h b → x ≡ batch_in spelling b ++ z → EndsIn spelling h end x → (end ≡ Cut) × (z ≡ [])
  batch_ends h b z Closed x is same ends = absurd (is.opened (let heads : 0 ∷ ends.0 ≡ batch_in spelling b ++ z = sym ends.1 ∙ same in cc heads))
  batch_ends h b z Cut x is same ends =
      let cut : IsCutIn spelling (batch_in spelling b ++ z) = subst (λ (l : List ℕ). IsCutIn spelling l) same ends in
      let count : 256 * (length b.records / 256 % 256) + length b.records % 256 ≡ length b.records = omega (arith, is.few) in
      let short : length (flat_map spelling.bytes b.records ++ z) ≤ spelling.width * length b.records = subst (λ (n : ℕ). length (flat_map spelling.bytes b.records ++ z) ≤ spelling.width * n) count cut.1 in
      (refl, nil_from_length z (omega (arith, short, length-append (flat_map spelling.bytes b.records) z, length-spelled spelling is_spelling.fixed.long b.records)))
  batch_ends h b z Bad x is same ends =
      let heads : ends.gate ∷ ends.high ∷ ends.low ∷ ends.behind ≡ batch_in spelling b ++ z = alike x (ends.gate ∷ ends.high ∷ ends.low ∷ ends.behind) (batch_in spelling b ++ z) ends.is same in
      let high : ends.high ≡ length b.records / 256 % 256 = cc heads in
      let low : ends.low ≡ length b.records % 256 = cc heads in
      let behind : ends.behind ≡ flat_map spelling.bytes b.records ++ z = cc heads in
      let count : 256 * ends.high + ends.low ≡ length b.records = omega (arith, high, low, is.few) in
      elim ends.wrong [
        | inl none ↦ absurd (omega (arith, none, count, is.some))
        | inr odd ↦ absurd (not_odd h odd.0 ends.behind (flat_map spelling.bytes b.records ++ z) behind odd.2 (record_of_batch h b.records odd.0 z is.good (omega (arith, odd.1, count))))
      ]

  -- no bytes end in two ways
  cut_is_open : (x rest : List ℕ) → IsCutIn spelling x → x ≡ 0 ∷ rest → ⊥
  cut_is_open [] rest cut same = cc same
  cut_is_open (a ∷ []) rest cut same = cut (cc same)
  cut_is_open (a ∷ b ∷ []) rest cut same = cut (cc same)
  cut_is_open (a ∷ b ∷ c ∷ x) rest cut same = cut.0 (cc same)

  bad_is_open : (h : Header) (x rest : List ℕ) → IsBadIn spelling h x → x ≡ 0 ∷ rest → ⊥
  bad_is_open h x rest bad same = bad.opened (let heads : bad.gate ∷ bad.high ∷ bad.low ∷ bad.behind ≡ 0 ∷ rest = sym bad.is ∙ same in cc heads)

  bad_is_whole : (h : Header) (x : List ℕ) → IsBadIn spelling h x → IsCutIn spelling x → ⊥
  bad_is_whole h x bad cut =
      let short : IsCutIn spelling (bad.gate ∷ bad.high ∷ bad.low ∷ bad.behind) = subst (λ (l : List ℕ). IsCutIn spelling l) bad.is cut in
      omega (arith, short.1, bad.whole)

  same_end : (h : Header) (e f : Ending) (x : List ℕ) → EndsIn spelling h e x → EndsIn spelling h f x → e ≡ f
  same_end h Closed Closed x a b = refl
  same_end h Closed Cut x a b = absurd (cut_is_open x a.0 b a.1)
  same_end h Closed Bad x a b = absurd (bad_is_open h x a.0 b a.1)
  same_end h Cut Closed x a b = absurd (cut_is_open x b.0 a b.1)
  same_end h Cut Cut x a b = refl
  same_end h Cut Bad x a b = absurd (bad_is_whole h x b a)
  same_end h Bad Closed x a b = absurd (bad_is_open h x b.0 a b.1)
  same_end h Bad Cut x a b = absurd (bad_is_whole h x a b)
  same_end h Bad Bad x a b = refl

  nothing_is_cut : (h : Header) (e : Ending) (x : List ℕ) → EndsIn spelling h e x → x ≡ [] → e ≡ Cut
  nothing_is_cut h Closed x ends none = absurd (let two : 0 ∷ ends.0 ≡ [] = sym ends.1 ∙ none in cc two)
  nothing_is_cut h Cut x ends none = refl
  nothing_is_cut h Bad x ends none = absurd (let two : ends.gate ∷ ends.high ∷ ends.low ∷ ends.behind ≡ [] = sym ends.is ∙ none in cc two)

  -- where a batch stands in front of an ending, the other way of reading ends cut short too
  one_more : (h : Header) (c : Batch) (cs : List Batch) (x y : List ℕ) (e f : Ending) → IsBatch h c → EndsIn spelling h e x → EndsIn spelling h f y → x ≡ (batch_in spelling c ++ batches_in spelling cs) ++ y → (e ≡ Cut) × (f ≡ Cut)
  one_more h c cs x y e f is ends ends' same =
      let at = batch_ends h c (batches_in spelling cs ++ y) e x is (same ∙ append_assoc (batch_in spelling c) (batches_in spelling cs) y) ends in
      (at.0, nothing_is_cut h f y ends' (nil_from_length y (omega (arith, length-append (batches_in spelling cs) y, ap (λ (l : List ℕ). length l) at.1))))

  -- however batches are read, the bytes end in one way
  pub one_end : (h : Header) (bs cs : List Batch) (x y : List ℕ) (e f : Ending) → IsSize h.size → AreBatches h bs → AreBatches h cs → EndsIn spelling h e x → EndsIn spelling h f y → batches_in spelling bs ++ x ≡ batches_in spelling cs ++ y → e ≡ f
  one_end h [] [] x y e f lawful good good' ends ends' same = same_end h e f x ends (subst (λ (l : List ℕ). EndsIn spelling h f l) (sym same) ends')
  one_end h [] (c ∷ cs) x y e f lawful good good' ends ends' same =
      let at = one_more h c cs x y e f good'.0 ends ends' same in
      at.0 ∙ sym at.1
  one_end h (b ∷ bs) [] x y e f lawful good good' ends ends' same =
      let at = one_more h b bs y x f e good.0 ends' ends (sym same) in
      at.1 ∙ sym at.0
  one_end h (b ∷ bs) (c ∷ cs) x y e f lawful good good' ends ends' same =
      let parts = same_batch h b c (batches_in spelling bs ++ x) (batches_in spelling cs ++ y) lawful good.0 good'.0 (sym (append_assoc (batch_in spelling b) (batches_in spelling bs) x) ∙ same ∙ append_assoc (batch_in spelling c) (batches_in spelling cs) y) in
      one_end h bs cs x y e f lawful good.1 good'.1 ends ends' parts.1

  -- and where they end by a closed gate, the records are the same
  pub one_text : (h : Header) (bs cs : List Batch) (x y : List ℕ) → IsSize h.size → AreBatches h bs → AreBatches h cs → batches_in spelling bs ++ 0 ∷ x ≡ batches_in spelling cs ++ 0 ∷ y → batch_records bs ≡ batch_records cs
  one_text h [] [] x y lawful good good' same = refl
  one_text h [] (c ∷ cs) x y lawful good good' same = absurd (good'.0.opened (cc same))
  one_text h (b ∷ bs) [] x y lawful good good' same = absurd (good.0.opened (cc same))
  one_text h (b ∷ bs) (c ∷ cs) x y lawful good good' same =
      let parts = same_batch h b c (batches_in spelling bs ++ 0 ∷ x) (batches_in spelling cs ++ 0 ∷ y) lawful good.0 good'.0 (sym (append_assoc (batch_in spelling b) (batches_in spelling bs) (0 ∷ x)) ∙ same ∙ append_assoc (batch_in spelling c) (batches_in spelling cs) (0 ∷ y)) in
      (λ i. parts.0 i ++ one_text h bs cs x y lawful good.1 good'.1 parts.1 i)

  -- Where bytes are batches up to a closed gate, what stands behind the first of them are the others.
  pub rest_of_batches : (h : Header) (bs cs : List Batch) (x y : List ℕ) → IsSize h.size → AreBatches h bs → AreBatches h cs → batches_in spelling bs ++ 0 ∷ x ≡ batches_in spelling cs ++ y
      → (ds : List Batch) × AreBatches h ds × (batch_records bs ≡ batch_records cs ++ batch_records ds) × (y ≡ batches_in spelling ds ++ 0 ∷ x)
  rest_of_batches h bs [] x y lawful good good' same = (bs, good, refl, sym same)
  rest_of_batches h [] (c ∷ cs) x y lawful good good' same = absurd (good'.0.opened (cc same))
  rest_of_batches h (b ∷ bs) (c ∷ cs) x y lawful good good' same =
      let parts = same_batch h b c (batches_in spelling bs ++ 0 ∷ x) (batches_in spelling cs ++ y) lawful good.0 good'.0 (sym (append_assoc (batch_in spelling b) (batches_in spelling bs) (0 ∷ x)) ∙ same ∙ append_assoc (batch_in spelling c) (batches_in spelling cs) y) in
      let after = rest_of_batches h bs cs x y lawful good.1 good'.1 parts.1 in (
        after.0,
        after.1,
        (λ i. parts.0 i ++ after.2 i) ∙ sym (append_assoc c.records (batch_records cs) (batch_records after.0)),
        after.3,
      )
