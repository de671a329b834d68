use Rattle.std.proofs.Common.{ℕ, Bool, ◌≡◌, ◌∷◌, ◌++◌, List, Some, None, Option, sym, subst, refl, arith, ◌<◌, ◌^◌}
use Rattle.std.specs.Fmt.{decimal}
use Rattle.numerals.proofs.Cuts.{no_cut}
use Rattle.transcripts.specs.Lines.{bit_words, head_line}
use Rattle.transcripts.proofs.Spelled.{cut_is, number_below}
use Rattle.transcripts.proofs.reading.head_of.Goals as goal

small : (q : ℕ) → q < 2 ^ 16 → q < 2 ^ 64
small q l = let big : 2 ^ 16 < 2 ^ 64 = omega arith in omega (arith, l, big)

-- what stands behind the first word
abbrev others : ℕ → Bool → ℕ → List ℕ
others q b n = decimal q ++ 32 ∷ (bit_words b ++ decimal n)

pub returns-in_err-behind : goal.returns-in_err-behind
returns-in_err-behind c = λ q b n asked few is. absurd (c.in_err-behind.ensures.exact (others q b n) is)

pub returns-in_err-question : goal.returns-in_err-question
returns-in_err-question c = λ q b n asked few is.
    absurd (no_cut c.in_ok-behind.field-0.now (decimal q) (bit_words b ++ decimal n) c.in_err-question.ensures (c.in_ok-behind.ensures.exact (others q b n) is))

pub returns-in_err-bit : goal.returns-in_err-bit
returns-in_err-bit c = λ q b n asked few is.
    let parts = cut_is c.in_ok-behind.field-0.now c.in_ok-question.question.now c.in_ok-question.rest.now (bit_words b ++ decimal n) q (small q asked)
    c.in_ok-question.ensures.0 c.in_ok-question.ensures.1 (c.in_ok-behind.ensures.exact (others q b n) is) in
    absurd (c.in_err-bit.ensures b (decimal n) parts.1)

pub returns-in_err-number16 : goal.returns-in_err-number16
returns-in_err-number16 c = λ q b n asked few is.
    let parts = cut_is c.in_ok-behind.field-0.now c.in_ok-question.question.now c.in_ok-question.rest.now (bit_words b ++ decimal n) q (small q asked)
    c.in_ok-question.ensures.0 c.in_ok-question.ensures.1 (c.in_ok-behind.ensures.exact (others q b n) is) in
    let there : ◌≡◌ {A = Option ℕ} None (Some q) = c.in_err-number16.ensures.exact q (number_below 16 c.in_ok-question.question.now q asked (small q asked) parts.0) in
    absurd (cc there)

pub returns-in_err-number : goal.returns-in_err-number
returns-in_err-number c = λ q b n asked few is.
    let parts = cut_is c.in_ok-behind.field-0.now c.in_ok-question.question.now c.in_ok-question.rest.now (bit_words b ++ decimal n) q (small q asked)
    c.in_ok-question.ensures.0 c.in_ok-question.ensures.1 (c.in_ok-behind.ensures.exact (others q b n) is) in
    let there : ◌≡◌ {A = Option ℕ} None (Some n) = c.in_err-number.ensures.exact n (number_below 64 c.in_ok-bit.count.now n few few (c.in_ok-bit.ensures b (decimal n) parts.1).1) in
    absurd (cc there)

pub returns : goal.returns
returns c = λ q b n asked few is.
    let parts = cut_is c.in_ok-behind.field-0.now c.in_ok-question.question.now c.in_ok-question.rest.now (bit_words b ++ decimal n) q (small q asked)
    c.in_ok-question.ensures.0 c.in_ok-question.ensures.1 (c.in_ok-behind.ensures.exact (others q b n) is) in
    let bit = c.in_ok-bit.ensures b (decimal n) parts.1 in
    let first : ◌≡◌ {A = Option ℕ} (Some c.in_ok-number16.field-0) (Some q) = c.in_ok-number16.ensures.exact q (number_below 16 c.in_ok-question.question.now q asked (small q asked) parts.0) in
    let last : ◌≡◌ {A = Option ℕ} (Some c.in_ok-number.field-0) (Some n) = c.in_ok-number.ensures.exact n (number_below 64 c.in_ok-bit.count.now n few few bit.1) in
    let q_is : c.in_ok-number16.field-0 ≡ q = cc in
    let n_is : c.in_ok-number.field-0 ≡ n = cc in
    rw (q_is, bit.0, n_is) refl
