-- A new deck has each link once.
use Rattle.std.proofs.Common.{ℕ, zero, suc, ◌≡◌, ◌≢◌, ◌⊎◌, ◌<◌, ◌≤◌, refl, sym, ap, subst, arith, inl, inr, Bool, true, false, if◌then◌else◌, List, [], ◌∷◌, ◌++◌, append-nil}
use Rattle.std.specs.List.{All, AllPairs, flat_map}
use Rattle.std.proofs.lemmas.List.Elements.{All-cons, All-append}
use Rattle.std.proofs.lemmas.List.Kept.{AllPairs-cons}
use Rattle.sim.specs.Outcomes.{among}
use Rattle.script.specs.declared.fair.Link.{Link}
use Rattle.script.specs.Fair.{links, links_from}
use Rattle.script.specs.Making.{correct_below}

-- numbers from a least one on, upwards, below an end
abbrev Rise : ℕ → ℕ → List ℕ → Type 0
Rise least end [] = least ≤ end
Rise least end (x ∷ xs) = (least ≤ x) × Rise (suc x) end xs

-- a link comes before another one, by sender and then by receiver
abbrev Precedes : Link → Link → Type 0
Precedes a b = (a.from < b.from) ⊎ ((a.from ≡ b.from) × (a.to < b.to))

abbrev link : ℕ → ℕ → Link
link from to = record { from = from; to = to }

none_of : {X : Type 0} (P : X → Type 0) → All P []
none_of P k d h = absurd (omega (arith, h))

no_pair : {X : Type 0} (R : X → X → Type 0) → AllPairs R []
no_pair R i j d h g = absurd (omega (arith, g))

rise_later : (least end : ℕ) (xs : List ℕ) → Rise least end xs → Rise least (suc end) xs
rise_later least end [] h = omega (arith, h)
rise_later least end (x ∷ xs) h = (h.0, rise_later (suc x) end xs h.1)

rise_more : (least end : ℕ) (xs : List ℕ) → Rise least end xs → Rise least (suc end) (xs ++ end ∷ [])
rise_more least end [] h = (h, omega arith)
rise_more least end (x ∷ xs) h = (h.0, rise_more (suc x) end xs h.1)

rise_lower : (low least end : ℕ) (xs : List ℕ) → low ≤ least → Rise least end xs → Rise low end xs
rise_lower low least end [] l h = omega (arith, l, h)
rise_lower low least end (x ∷ xs) l h = let g = h.0 in (omega (arith, l, g), h.1)

-- the correct members rise
correct_rise : (n : ℕ) (liars : List ℕ) → Rise 0 n (correct_below n liars)
correct_rise zero liars = omega arith
correct_rise (suc n) liars = step (among liars n) (correct_rise n liars)
  where
    step : (b : Bool) → Rise 0 n (correct_below n liars) → Rise 0 (suc n) (correct_below n liars ++ (if b then [] else n ∷ []))
    step true h = subst (λ (l : List ℕ). Rise 0 (suc n) l) (sym (append-nil (correct_below n liars))) (rise_later 0 n (correct_below n liars) h)
    step false h = rise_more 0 n (correct_below n liars) h

-- a link comes before those from its sender to later members
before_row : (from to end : ℕ) (tos : List ℕ) → Rise (suc to) end tos → All (Precedes (link from to)) (links_from from tos)
before_row from to end [] h = none_of (Precedes (link from to))
before_row from to end (t ∷ tos) h =
    let less : to < t = omega (arith, h.0) in
    All-cons (Precedes (link from to)) (link from t) (links_from from tos) (inr (refl, less))
    (before_row from to end tos (rise_lower (suc to) (suc t) end tos (omega (arith, less)) h.1))

-- links of a later sender
later_row : (from f : ℕ) (tos : List ℕ) → from < f → All (λ l. from < l.from) (links_from f tos)
later_row from f [] h = none_of (λ (l : Link). from < l.from)
later_row from f (t ∷ tos) h = All-cons (λ (l : Link). from < l.from) (link f t) (links_from f tos) h (later_row from f tos h)

later_rows : (from end : ℕ) (froms ms : List ℕ) → Rise (suc from) end froms → All (λ l. from < l.from) (flat_map (λ f. links_from f ms) froms)
later_rows from end [] ms h = none_of (λ (l : Link). from < l.from)
later_rows from end (f ∷ froms) ms h =
    let less : from < f = omega (arith, h.0) in
    All-append (λ (l : Link). from < l.from) (links_from f ms) (flat_map (λ f. links_from f ms) froms) (later_row from f ms less)
    (later_rows from end froms ms (rise_lower (suc from) (suc f) end froms (omega (arith, less)) h.1))

-- a row in front of later ones
row_first : (from least end : ℕ) (tos : List ℕ) (rest : List Link) → Rise least end tos → All (λ l. from < l.from) rest → AllPairs Precedes rest
    → AllPairs Precedes (links_from from tos ++ rest)
row_first from least end [] rest h later pairs = pairs
row_first from least end (to ∷ tos) rest h later pairs =
    AllPairs-cons Precedes (link from to) (links_from from tos ++ rest)
    (All-append (Precedes (link from to)) (links_from from tos) rest (before_row from to end tos h.1) (λ k d g. inl (later k d g)))
    (row_first from (suc to) end tos rest h.1 later pairs)

rows : (least end low high : ℕ) (froms ms : List ℕ) → Rise least end froms → Rise low high ms
    → AllPairs Precedes (flat_map (λ f. links_from f ms) froms)
rows least end low high [] ms h g = no_pair Precedes
rows least end low high (f ∷ froms) ms h g =
    row_first f low high ms (flat_map (λ f. links_from f ms) froms) g (later_rows f end froms ms h.1) (rows (suc f) end low high froms ms h.1 g)

differ : (a b : Link) → Precedes a b → a ≡ b → ⊥
differ a b (inl h) e = let f = ap (λ (l : Link). l.from) e in absurd (omega (arith, f, h))
differ a b (inr (s, h)) e = let f = ap (λ (l : Link). l.to) e in absurd (omega (arith, f, h))

pub each_once : (n : ℕ) (liars : List ℕ) → AllPairs (λ a b. a ≢ b) (links (correct_below n liars))
each_once n liars i j d h g =
    let ms : List ℕ = correct_below n liars in
    differ _ _ (rows 0 n 0 n ms ms (correct_rise n liars) (correct_rise n liars) i j d h g)
