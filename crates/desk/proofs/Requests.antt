-- The first line of a request of HTTP.
use Rattle.std.proofs.Common.{ℕ, ◌≡◌, ◌∙◌, ◌+◌, ◌-◌, ◌≤◌, refl, sym, ap, subst, arith, List, [], ◌∷◌, ◌++◌, codes, length, take, drop, length-append, length-drop, take-append-drop}
use Rattle.std.proofs.Math.Seq.{drop-append_seam, take-append_seam}

-- a text of nine bytes and more that ends so
pub record EndsSo (text : List ℕ) : Type 0 where
  pub front : List ℕ
  pub minor : ℕ
  pub whole : text ≡ front ++ (codes " HTTP/1." ++ minor ∷ [])

only_byte : (xs : List ℕ) → length xs ≡ 1 → (m : ℕ) × (xs ≡ m ∷ [])
only_byte [] e = absurd (omega (arith, e))
only_byte (m ∷ []) e = (m, refl)
only_byte (m ∷ n ∷ xs) e = absurd (omega (arith, e))

pub ends_so : (text : List ℕ) → 9 ≤ length text → take (length text - 1 - (length text - 9)) (drop (length text - 9) text) ≡ codes " HTTP/1." → EndsSo text
ends_so text long is =
    let tail : List ℕ = drop (length text - 9) text in
    let eight : length text - 1 - (length text - 9) ≡ 8 = omega (arith, long) in
    let last = only_byte (drop 8 tail) (omega (arith, long, length-drop (length text - 9) text, length-drop 8 tail)) in
    let parts : tail ≡ codes " HTTP/1." ++ last.0 ∷ [] =
    sym (take-append-drop 8 tail) ∙ (λ i. take (sym eight i) tail ++ last.1 i) ∙ ap (λ (l : List ℕ). l ++ last.0 ∷ []) is in
    record {
      front = take (length text - 9) text;
      minor = last.0;
      whole = sym (take-append-drop (length text - 9) text) ∙ ap (λ (l : List ℕ). take (length text - 9) text ++ l) parts;
    }

pub is_end : (text : List ℕ) (e : EndsSo text) → take (length text - 1 - (length text - 9)) (drop (length text - 9) text) ≡ codes " HTTP/1."
is_end text e =
    let tail : List ℕ = codes " HTTP/1." ++ e.minor ∷ [] in
    let all : length text ≡ length e.front + 9 = ap (λ (l : List ℕ). length l) e.whole ∙ length-append e.front tail in
    let eight : length text - 1 - (length text - 9) ≡ 8 = omega (arith, all) in
    let at : length text - 9 ≡ length e.front = omega (arith, all) in
    let cut : drop (length text - 9) text ≡ tail = (λ i. drop (at i) (e.whole i)) ∙ drop-append_seam e.front tail in
    (λ i. take (eight i) (cut i)) ∙ refl

-- so it has nine bytes
pub is_long : (text : List ℕ) → EndsSo text → 9 ≤ length text
is_long text e = omega (arith, ap (λ (l : List ℕ). length l) e.whole, length-append e.front (codes " HTTP/1." ++ e.minor ∷ []))
