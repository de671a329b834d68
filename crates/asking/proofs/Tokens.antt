-- The token of a text that is one line.
use Rattle.std.proofs.Common.{ℕ, ◌≡◌, ◌∙◌, ◌-◌, ◌<◌, ◌≤◌, true, false, refl, sym, ap, subst, arith, inl, inr, List, [], ◌∷◌, ◌++◌, drop, get_or, length, length-append, nat_eq, take}
use Rattle.std.specs.Cmp.Lexicographic.{pointwise}
use Rattle.asking.specs.Gates.{HasToken, IsLineOf, IsToken, IsTokenByte}

front : (line more : List ℕ) → take (length line) (line ++ more) ≡ line
front [] more = refl
front (byte ∷ line) more = ap (λ (l : List ℕ). byte ∷ l) (front line more)

back : (line more : List ℕ) → drop (length line) (line ++ more) ≡ more
back [] more = refl
back (byte ∷ line) more = back line more

one_less : (line : List ℕ) → length (line ++ 10 ∷ []) - 1 ≡ length line
one_less line = omega (arith, length-append line (10 ∷ []))

-- what stands before the end of a line
pub before_end : (text line : List ℕ) → text ≡ line ++ 10 ∷ [] → take (length text - 1) text ≡ line
before_end text line is =
    ap (λ (l : List ℕ). take (length l - 1) l) is ∙ ap (λ (n : ℕ). take n (line ++ 10 ∷ [])) (one_less line) ∙ front line (10 ∷ [])

-- a text that doesn't end so has no such line
pub no_end : (text line : List ℕ) → pointwise nat_eq (drop (length text - 1) text) (10 ∷ []) ≡ false → text ≡ line ++ 10 ∷ [] → ⊥
no_end text line differs is =
    let end : drop (length text - 1) text ≡ 10 ∷ [] =
    ap (λ (l : List ℕ). drop (length l - 1) l) is ∙ ap (λ (n : ℕ). drop n (line ++ 10 ∷ [])) (one_less line) ∙ back line (10 ∷ []) in
    let no : pointwise nat_eq (10 ∷ []) (10 ∷ []) ≡ false = sym (ap (λ (l : List ℕ). pointwise nat_eq l (10 ∷ [])) end) ∙ differs in
    let bad : true ≡ false = no in
    cc

at_end : (line : List ℕ) → get_or (line ++ 10 ∷ []) (length line) 0 ≡ 10
at_end [] = refl
at_end (byte ∷ line) = at_end line

-- a token has no end of a line
no_end_in : (line : List ℕ) → IsToken (line ++ 10 ∷ []) → ⊥
no_end_in line is =
    let byte : IsTokenByte (get_or (line ++ 10 ∷ []) (length line) 0) = is.2 (length line) 0 (omega (arith, length-append line (10 ∷ []))) in
    let printed : IsTokenByte 10 = subst IsTokenByte (at_end line) byte in
    omega (arith, printed.0)

-- so the line of a text is its token, if it has one
pub line_is_token : (text line token : List ℕ) → IsLineOf text line → ((other : List ℕ) → text ≡ other ++ 10 ∷ [] → line ≡ other)
    → HasToken text token → IsToken line
line_is_token text line token of end (is, inr e) = subst IsToken (sym (end token e)) is
line_is_token text line token (inl of) end (is, inl e) = subst IsToken (sym e ∙ of) is
line_is_token text line token (inr of) end (is, inl e) = absurd (no_end_in line (subst IsToken (sym e ∙ of) is))
