-- What can be told of bytes, and records and headers: each test says yes or no.
use Rattle.std.proofs.Common.{◌≡◌, ◌≢◌, ◌⊎◌, inl, inr, ℕ, zero, suc, ◌*◌, ◌<◌, ◌≤◌, ◌^◌, List, [], ◌∷◌, length, take, codes, refl, sym, ◌∙◌, ap, subst, arith}
use Rattle.std.proofs.lemmas.Bool.{cases_eq, cases_lt}
use Rattle.terms_prelude.specs.Terms.{Kind, Initial, Echo, Ready, Value, Zero, One, SureZero, SureOne, Unsure, Size, Record, Said, Decided, Header, IsSize, IsPlain, IsOfThird, FitsStep}
use Rattle.journal.specs.Words.{record_bytes, header_text, IsHeader, IsStatementFor, IsDecisionFor, IsWellFormedFor, HasHeader, IsOldVersion}
use Rattle.journal.proofs.Headers.{read_off, read_back}
use Rattle.journal.proofs.Six.{record_at, record_back}
use Rattle.journal.proofs.Opened.{front_of, begins_with}

-- it holds, or it doesn't
abbrev pub YesOrNo : Type 0 → Type 0
YesOrNo P = P ⊎ (P → ⊥)

both : (P Q : Type 0) → YesOrNo P → YesOrNo Q → YesOrNo (P × Q)
both P Q (inl p) (inl q) = inl (p, q)
both P Q (inl p) (inr never) = inr (λ pq. never pq.1)
both P Q (inr never) q = inr (λ pq. never pq.0)

same_as : (P Q : Type 0) → (P → Q) → (Q → P) → YesOrNo P → YesOrNo Q
same_as P Q to from (inl p) = inl (to p)
same_as P Q to from (inr never) = inr (λ q. never (from q))

below : (m n : ℕ) → YesOrNo (m < n)
below m n = elim (cases_lt m n) [ inl lt ↦ inl lt | inr ge ↦ inr (λ lt. omega (arith, lt, ge)) ]

up_to : (m n : ℕ) → YesOrNo (m ≤ n)
up_to m n = elim (cases_lt n m) [ inl gt ↦ inr (λ le. omega (arith, le, gt)) | inr le ↦ inl le ]

-- two lists of bytes are the same
same_bytes : (a b : List ℕ) → YesOrNo (a ≡ b)
same_bytes [] [] = inl refl
same_bytes [] (y ∷ ys) = inr (λ e. cc e)
same_bytes (x ∷ xs) [] = inr (λ e. cc e)
same_bytes (x ∷ xs) (y ∷ ys) = elim (cases_eq x y) [
  | inl first ↦ elim (same_bytes xs ys) [
    | inl rest ↦ inl (λ i. first i ∷ rest i)
    | inr never ↦ inr (λ e. never (cc e))
  ]
  | inr never ↦ inr (λ e. never (cc e))
]

plain : (v : Value) → YesOrNo (IsPlain v)
plain Zero = inl tt
plain One = inl tt
plain SureZero = inr (λ h. h)
plain SureOne = inr (λ h. h)
plain Unsure = inr (λ h. h)

of_third : (v : Value) → YesOrNo (IsOfThird v)
of_third Zero = inr (λ h. h)
of_third One = inr (λ h. h)
of_third SureZero = inl tt
of_third SureOne = inl tt
of_third Unsure = inl tt

fits : (step : ℕ) (v : Value) → YesOrNo (FitsStep step v)
fits zero v = inr (λ h. h)
fits (suc zero) v = plain v
fits (suc (suc zero)) v = plain v
fits (suc (suc (suc zero))) v = of_third v
fits (suc (suc (suc (suc step)))) v = inr (λ h. h)

own : (k : Kind) (origin me : ℕ) → YesOrNo (k ≡ Initial → origin ≡ me)
own Initial origin me = elim (cases_eq origin me) [ inl same ↦ inl (λ is. same) | inr never ↦ inr (λ h. never (h refl)) ]
own Echo origin me = inl (λ is. absurd (cc is))
own Ready origin me = inl (λ is. absurd (cc is))

-- a record is well formed
well_formed : (h : Header) (r : Record) → YesOrNo (IsWellFormedFor h r)
well_formed h (Said s) =
    same_as (((((s.place.question < h.size.questions) × (s.place.origin < h.size.n)) × ((1 ≤ s.place.round) × (s.place.round ≤ 32))) × FitsStep s.place.step s.value) × (s.kind ≡ Initial → s.place.origin ≡ h.me)) (IsStatementFor h s)
    (λ p. record { fits = record { question = p.0.0.0.0; origin = p.0.0.0.1; from_one = p.0.0.1.0; to_last = p.0.0.1.1; value = p.0.1 }; own = p.1 })
    (λ is. ((((is.fits.question, is.fits.origin), (is.fits.from_one, is.fits.to_last)), is.fits.value), is.own))
    (both _ _ (both _ _ (both _ _ (both _ _ (below s.place.question h.size.questions) (below s.place.origin h.size.n)) (both _ _ (up_to 1 s.place.round) (up_to s.place.round 32))) (fits s.place.step s.value)) (own s.kind s.place.origin h.me))
well_formed h (Decided question round bit) =
    same_as ((question < h.size.questions) × ((1 ≤ round) × (round ≤ 32))) (IsDecisionFor h question round)
    (λ p. record { asked = p.0; from_one = p.1.0; to_last = p.1.1 })
    (λ is. (is.asked, (is.from_one, is.to_last)))
    (both _ _ (below question h.size.questions) (both _ _ (up_to 1 round) (up_to round 32)))

-- a size is lawful
size_is : (s : Size) → YesOrNo (IsSize s)
size_is s =
    same_as (((1 ≤ s.n) × (s.n ≤ 64)) × ((3 * s.t < s.n) × ((1 ≤ s.questions) × (s.questions ≤ 4096)))) (IsSize s)
    (λ p. record { some = p.0.0; most = p.0.1; liars = p.1.0; asks = p.1.1.0; few = p.1.1.1 })
    (λ is. ((is.some, is.most), (is.liars, (is.asks, is.few))))
    (both _ _ (both _ _ (up_to 1 s.n) (up_to s.n 64)) (both _ _ (below (3 * s.t) s.n) (both _ _ (up_to 1 s.questions) (up_to s.questions 4096))))

-- a header is lawful
header_is : (h : Header) → YesOrNo (IsHeader h)
header_is h =
    same_as (((h.cluster < 2 ^ 64) × IsSize h.size) × (h.me < h.size.n)) (IsHeader h)
    (λ p. record { cluster = p.0.0; size = p.0.1; me = p.1 })
    (λ is. ((is.cluster, is.size), is.me))
    (both _ _ (both _ _ (below h.cluster (2 ^ 64)) (size_is h.size)) (below h.me h.size.n))

-- some bytes are a record
pub is_record : (h : Header) (b : List ℕ) → IsSize h.size → ((r : Record) × IsWellFormedFor h r × (b ≡ record_bytes r)) ⊎ ((r : Record) → IsWellFormedFor h r → b ≢ record_bytes r)
is_record h b size =
    let it = record_at b in
    elim (both _ _ (well_formed h it) (same_bytes b (record_bytes it))) [
      | inl has_it ↦ inl (it, has_it.0, has_it.1)
      | inr never ↦ inr (λ r well same.
          let back : it ≡ r = record_back b h r size well same in
          never (subst (λ (x : Record). IsWellFormedFor h x) (sym back) well, same ∙ ap (λ (x : Record). record_bytes x) (sym back)))
    ]

-- a file is of version 1
pub is_old : (file : List ℕ) → YesOrNo (IsOldVersion file)
is_old file =
    same_as ((24 ≤ length file) × (take 8 file ≡ codes "BRACHAJ1")) (IsOldVersion file)
    (λ p. record { long = p.0; mark = p.1 })
    (λ is. (is.long, is.mark))
    (both _ _ (up_to 24 (length file)) (same_bytes (take 8 file) (codes "BRACHAJ1")))

-- a file begins with a header
pub has_header : (file : List ℕ) → ((h : Header) × HasHeader h file) ⊎ ((h : Header) → HasHeader h file → ⊥)
has_header file =
    let front : List ℕ = take 24 file in
    let it = read_off front in
    elim (both _ _ (header_is it) (same_bytes front (header_text it))) [
      | inl has_it ↦ inl (it, begins_with it front file has_it.0 has_it.1 refl)
      | inr never ↦ inr (λ h has.
          let same : front ≡ header_text h = front_of h file has in
          let back : it ≡ h = read_back front h has.lawful same in
          never (subst (λ (x : Header). IsHeader x) (sym back) has.lawful, same ∙ ap (λ (x : Header). header_text x) (sym back)))
    ]
