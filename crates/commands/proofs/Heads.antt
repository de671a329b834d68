-- The question and the bit that a transcript's text begins with are those that it shows.
use Rattle.std.proofs.Common.{ℕ, ◌≡◌, ◌+◌, ◌<◌, ◌^◌, ◌==◌, Bool, true, false, if◌then◌else◌, refl, sym, ap, ◌∙◌, arith, List, [], ◌∷◌, ◌++◌, append_assoc, codes, drop, get_or, length, map}
use Rattle.std.specs.Fmt.{decimal}
use Rattle.std.proofs.lemmas.Fmt.{decimal_digit, decimal_injective, decimal_is_IsNumeral}
use Rattle.terms_prelude.specs.Terms.{Size}
use Rattle.numerals.proofs.Cuts.{digits_spaceless, one_cut}
use Rattle.numerals.specs.Lines.{lines_of, onto_line}
use Rattle.numerals.specs.Spaces.{NoSpace}
use Rattle.transcripts.specs.Lines.{bit_words, head_line, pair_line}
use Rattle.transcripts.specs.Reading.{Reads, Shown}
use Rattle.commands.specs.Surveys.{IsTranscriptOf, bit_number, transcript_head}

none : (line : List ℕ) (lines : List (List ℕ)) → ◌≡◌ {A = List (List ℕ)} [] (line ∷ lines) → ⊥
none line lines e = cc e

-- a text begins with its first line
first_line : (text line : List ℕ) (lines : List (List ℕ)) → lines_of text ≡ line ∷ lines → (rest : List ℕ) × (text ≡ line ++ rest)
first_line [] line lines e = absurd (none line lines e)
first_line (byte ∷ bytes) line lines e = step (byte == 10) e (first_line bytes)
  where
    inner : (found : List (List ℕ)) → lines_of bytes ≡ found → onto_line byte found ≡ line ∷ lines
        → ((l : List ℕ) (ls : List (List ℕ)) → lines_of bytes ≡ l ∷ ls → (rest : List ℕ) × (bytes ≡ l ++ rest)) → (rest : List ℕ) × (byte ∷ bytes ≡ line ++ rest)
    inner [] is e more =
        let same : byte ∷ [] ≡ line = ap (λ (ls : List (List ℕ)). get_or ls 0 []) e in
        (bytes, ap (λ (l : List ℕ). l ++ bytes) same)
    inner (l ∷ ls) is e more =
        let same : byte ∷ l ≡ line = ap (λ (ls : List (List ℕ)). get_or ls 0 []) e in
        let rest = more l ls is in
        (rest.0, ap (λ (t : List ℕ). byte ∷ t) rest.1 ∙ ap (λ (t : List ℕ). t ++ rest.0) same)

    step : (ends : Bool) → (if ends then [] ∷ lines_of bytes else onto_line byte (lines_of bytes)) ≡ line ∷ lines
        → ((l : List ℕ) (ls : List (List ℕ)) → lines_of bytes ≡ l ∷ ls → (rest : List ℕ) × (bytes ≡ l ++ rest)) → (rest : List ℕ) × (byte ∷ bytes ≡ line ++ rest)
    step true e more =
        let same : [] ≡ line = ap (λ (ls : List (List ℕ)). get_or ls 0 []) e in
        (byte ∷ bytes, ap (λ (l : List ℕ). l ++ byte ∷ bytes) same)
    step false e more = inner (lines_of bytes) refl e more

spaceless : (n : ℕ) → n < 2 ^ 64 → NoSpace (decimal n)
spaceless n l = digits_spaceless (decimal n) (decimal_is_IsNumeral n l).0.1

-- the digit behind `bit `
digit_at : (bit : ℕ) (tail : List ℕ) → bit < 10 → get_or ((codes "bit " ++ (decimal bit ++ codes " ")) ++ tail) 4 0 ≡ 48 + bit
digit_at bit tail below = ap (λ (d : List ℕ). get_or ((codes "bit " ++ (d ++ codes " ")) ++ tail) 4 0) (decimal_digit bit below)

same_bit : (b bit : Bool) (count rest tail : List ℕ) → (bit_words b ++ count) ++ rest ≡ (codes "bit " ++ (decimal (bit_number bit) ++ codes " ")) ++ tail → b ≡ bit
same_bit false false count rest tail e = refl
same_bit true true count rest tail e = refl
same_bit false true count rest tail e =
    let f : 48 ≡ 49 = ap (λ (t : List ℕ). get_or t 4 0) e ∙ digit_at 1 tail (omega arith) in
    absurd (omega (arith, f))
same_bit true false count rest tail e =
    let f : 49 ≡ 48 = ap (λ (t : List ℕ). get_or t 4 0) e ∙ digit_at 0 tail (omega arith) in
    absurd (omega (arith, f))

one_head : (q question n : ℕ) (b bit : Bool) (rest tail : List ℕ) → q < 2 ^ 64 → question < 2 ^ 64
    → head_line q b n ++ rest ≡ transcript_head question (bit_number bit) ++ tail → (q ≡ question) × (b ≡ bit)
one_head q question n b bit rest tail small few e =
    let count = bit_words b ++ decimal n in
    let behind = codes "bit " ++ (decimal (bit_number bit) ++ codes " ") in
    let tails : (decimal q ++ 32 ∷ count) ++ rest ≡ (decimal question ++ 32 ∷ behind) ++ tail = ap (λ (t : List ℕ). drop 11 t) e in
    let cut : decimal q ++ 32 ∷ (count ++ rest) ≡ decimal question ++ 32 ∷ (behind ++ tail) =
    sym (append_assoc (decimal q) (32 ∷ count) rest) ∙ tails ∙ append_assoc (decimal question) (32 ∷ behind) tail in
    let one = one_cut (decimal q) (decimal question) (count ++ rest) (behind ++ tail) (spaceless q small) (spaceless question few) cut in
    (decimal_injective q question small few one.0, same_bit b bit (decimal n) rest tail one.1)

-- what is read of a text that begins as a transcript of a question and a bit is of these
pub shown_is : (size : Size) (text : List ℕ) (shown : Shown) (question : ℕ) (bit : Bool) → shown.question < 2 ^ 64 → question < 2 ^ 64
    → Reads size text shown → IsTranscriptOf question (bit_number bit) text → (shown.question ≡ question) × (shown.bit ≡ bit)
shown_is size text shown question bit small few reads begins =
    let head = head_line shown.question shown.bit (length shown.pairs) in
    let first = first_line text head (map pair_line shown.pairs) reads.lines in
    one_head shown.question question (length shown.pairs) shown.bit bit first.0 begins.0 small few (sym first.1 ∙ begins.1)
