-- The pieces of a trace.
use Rattle.std.proofs.Common.{ℕ, zero, suc, min, ◌≡◌, ◌≤◌, ◌⊎◌, inl, inr, refl, sym, ap, ◌∙◌, ◌+◌, arith, append_assoc, append-nil, codes, List, [], ◌∷◌, ◌++◌, length, take, drop, length-take-le}
use Rattle.std.proofs.Math.Nat.{le-min, min-le_left}
use Rattle.std.specs.Global.{Vec}
use Rattle.std.specs.Fmt.{decimal}
use Rattle.std.proofs.Math.ListN.{drop_of_length-le}
use Rattle.terms_prelude.specs.Terms.{Record}
use Rattle.sim.specs.declared.events.Event.{Event}
use Rattle.sim.specs.declared.events.Mark.{Mark}
use Rattle.sim.specs.Texts.{event_text}
use Rattle.report.specs.Traces.{mark_text, saved_text, trace_line, trace_from}

pub line_pieces : (number : ℕ) (e : Event) (m : Mark) (records : List Record) (event mark saved : List ℕ)
    → event ≡ event_text e → mark ≡ mark_text m → saved ≡ saved_text records
    → decimal number ++ (codes " " ++ (event ++ (codes ": " ++ (mark ++ (saved ++ codes "\n"))))) ≡ trace_line number e m records
line_pieces number e m records event mark saved a b c = rw (a, b, c) (simp append_assoc)

-- one line more
pub trace_on : (i : ℕ) (events : List Event) (marks : List Mark) (saved : List (Vec Record)) (written line all : List ℕ) (event : Event) (mark : Mark) (records : Vec Record) (kept : List Record)
    → kept ≡ records.items → line ≡ trace_line (i + 1) event mark kept
    → drop i events ≡ event ∷ drop (i + 1) events → drop i marks ≡ mark ∷ drop (i + 1) marks → drop i saved ≡ records ∷ drop (i + 1) saved
    → written ++ trace_from (i + 1) (drop i events) (drop i marks) (drop i saved) ≡ all
    → (written ++ line) ++ trace_from (i + 1 + 1) (drop (i + 1) events) (drop (i + 1) marks) (drop (i + 1) saved) ≡ all
trace_on i events marks saved written line all event mark records kept same is a b d before =
    let rest = trace_from (i + 1 + 1) (drop (i + 1) events) (drop (i + 1) marks) (drop (i + 1) saved) in
    let made : line ≡ trace_line (i + 1) event mark records.items = is ∙ ap (trace_line (i + 1) event mark) same in
    let step : trace_from (i + 1) (drop i events) (drop i marks) (drop i saved) ≡ trace_line (i + 1) event mark records.items ++ rest = λ t. trace_from (i + 1) (a t) (b t) (d t) in
    append_assoc written line rest ∙ ap (λ (t : List ℕ). written ++ (t ++ rest)) made ∙ ap (λ (t : List ℕ). written ++ t) (sym step) ∙ before

no_marks : (number : ℕ) (events : List Event) (saved : List (Vec Record)) → trace_from number events [] saved ≡ []
no_marks number [] saved = refl
no_marks number (e ∷ events) saved = refl

no_saved : (number : ℕ) (events : List Event) (marks : List Mark) → trace_from number events marks [] ≡ []
no_saved number [] marks = refl
no_saved number (e ∷ events) [] = refl
no_saved number (e ∷ events) (m ∷ marks) = refl

-- behind the shortest list nothing is left
pub none_left : (number k : ℕ) (events : List Event) (marks : List Mark) (saved : List (Vec Record))
    → (length events ≤ k) ⊎ ((length marks ≤ k) ⊎ (length saved ≤ k)) → trace_from number (drop k events) (drop k marks) (drop k saved) ≡ []
none_left number k events marks saved (inl h) = rw (drop_of_length-le events h) refl
none_left number k events marks saved (inr (inl h)) = rw (drop_of_length-le marks h) (no_marks number (drop k events) (drop k saved))
none_left number k events marks saved (inr (inr h)) = rw (drop_of_length-le saved h) (no_saved number (drop k events) (drop k marks))

-- so the text is the whole
pub whole : (text all : List ℕ) (number k : ℕ) (events : List Event) (marks : List Mark) (saved : List (Vec Record))
    → text ++ trace_from number (drop k events) (drop k marks) (drop k saved) ≡ all
    → (length events ≤ k) ⊎ ((length marks ≤ k) ⊎ (length saved ≤ k)) → text ≡ all
whole text all number k events marks saved e h =
    sym (append-nil text) ∙ ap (λ (rest : List ℕ). text ++ rest) (sym (none_left number k events marks saved h)) ∙ e

le_or_above : (a k : ℕ) → (a ≤ k) ⊎ (suc k ≤ a)
le_or_above zero k = inl (omega arith)
le_or_above (suc a) zero = inr (omega arith)
le_or_above (suc a) (suc k) = elim (le_or_above a k) [ inl h ↦ inl (omega arith) | inr h ↦ inr (omega arith) ]

-- one of three numbers isn't above their least
pub one_is_least : (a b c k : ℕ) → min (min a b) c ≤ k → (a ≤ k) ⊎ ((b ≤ k) ⊎ (c ≤ k))
one_is_least a b c k h = elim (le_or_above a k) [
  | inl x ↦ inl x
  | inr x ↦ elim (le_or_above b k) [
    | inl y ↦ inr (inl y)
    | inr y ↦ elim (le_or_above c k) [
      | inl z ↦ inr (inr z)
      | inr z ↦ let most : suc k ≤ min (min a b) c = le-min (le-min x y) z in absurd (omega (arith, most, h))
    ]
  ]
]

-- the first events are at an end where the shortest list is
pub ended : {A : Type 0} (xs : List A) (b c count k : ℕ) → count ≡ min (min (length xs) b) c → length (take count xs) ≤ k → min (min (length xs) b) c ≤ k
ended xs b c count k e h =
    let within : count ≤ length xs = omega (arith, e, min-le_left (min (length xs) b) c, min-le_left (length xs) b) in
    let long : length (take count xs) ≡ count = length-take-le count xs within in
    omega (arith, e, long, h)

-- one of four numbers isn't above their least
pub one_of_four : (a b c d k : ℕ) → min (min (min a b) c) d ≤ k → (a ≤ k) ⊎ ((b ≤ k) ⊎ ((c ≤ k) ⊎ (d ≤ k)))
one_of_four a b c d k h = elim (le_or_above (min (min a b) c) k) [
  | inl x ↦ elim (one_is_least a b c k x) [ inl y ↦ inl y | inr y ↦ elim y [ inl z ↦ inr (inl z) | inr z ↦ inr (inr (inl z)) ] ]
  | inr x ↦ elim (le_or_above d k) [
    | inl y ↦ inr (inr (inr y))
    | inr y ↦ let most : suc k ≤ min (min (min a b) c) d = le-min x y in absurd (omega (arith, most, h))
  ]
]

-- the first events are at an end where the shortest of four lists is
pub ended_of_four : {A : Type 0} (xs : List A) (b c d count k : ℕ) → count ≡ min (min (min (length xs) b) c) d → length (take count xs) ≤ k
    → (length xs ≤ k) ⊎ ((b ≤ k) ⊎ ((c ≤ k) ⊎ (d ≤ k)))
ended_of_four xs b c d count k e h =
    let within : count ≤ length xs = omega (arith, e, min-le_left (min (min (length xs) b) c) d, min-le_left (min (length xs) b) c, min-le_left (length xs) b) in
    let long : length (take count xs) ≡ count = length-take-le count xs within in
    one_of_four (length xs) b c d k (omega (arith, e, long, h))
