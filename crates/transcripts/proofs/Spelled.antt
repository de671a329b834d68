-- How the words of a line are read back.
use Rattle.std.proofs.Common.{ℕ, zero, suc, ◌≡◌, ◌+◌, ◌*◌, ◌<◌, ◌≤◌, ◌^◌, ◌==◌, Bool, true, false, cond, eqb, refl, sym, ap, subst, ◌∙◌, arith, Ok, Some, None, List, [], ◌∷◌, ◌++◌, append_assoc, length, take, take_all, length-drop, ◌-◌, drop, get_or, codes, slice_index}
use Rattle.std.specs.Fmt.{decimal}
use Rattle.std.specs.List.{position_from}
use Rattle.std.proofs.lemmas.Fmt.{decimal_is_IsNumeral}
use Rattle.hex.specs.Hex.{IsBytes, decode_of, decode_sized, encode_lower}
use Rattle.hex.specs.declared.error.FromHexError.{FromHexError}
use Rattle.hex.proofs.HexLemmas.{decode_of-encode_lower, decode_sized-twice, length-encode_with}
use Rattle.hex.specs.Hex.{lower_digits}
use Rattle.terms_prelude.specs.Terms.{Kind, Initial, Echo, Ready, Value, Zero, One, SureZero, SureOne, Unsure, Statement, Size, IsSize, IsWellFormed, FitsStep, value_code}
use Rattle.statement_codec.specs.Statements.{kind_byte}
use Rattle.numerals.proofs.Cuts.{one_cut}
use Rattle.numerals.specs.Lines.{lines_of, onto_line}
use Rattle.numerals.specs.Numbers.{IsBelow}
use Rattle.numerals.specs.Spaces.{NoSpace}
use Rattle.wire.specs.Texts.{frame_bytes}
use Rattle.wire.specs.declared.message.Message.TheVariants as message
use Rattle.transcripts.specs.Lines.{bit_words}
use Rattle.transcripts.specs.Reading.{is_end}
use Rattle.transcripts.proofs.Beginnings.{spaceless_digits}

-- a number's digits write it
pub number_below : (bits : ℕ) (digits : List ℕ) (n : ℕ) → n < 2 ^ bits → n < 2 ^ 64 → digits ≡ decimal n → IsBelow bits digits n
number_below bits digits n below small is =
    let d = decimal_is_IsNumeral n small in
    subst (λ (ds : List ℕ). IsBelow bits ds n) (sym is) (record { number_is = record { digits_are = d.0; value = d.1 }; below = below })

-- a line that begins with a number is cut behind it
pub cut_is : (line digits rest words : List ℕ) (n : ℕ) → n < 2 ^ 64 → line ≡ digits ++ 32 ∷ rest → NoSpace digits → line ≡ decimal n ++ 32 ∷ words
    → (digits ≡ decimal n) × (rest ≡ words)
cut_is line digits rest words n small whole none is = one_cut digits (decimal n) rest words none (spaceless_digits n small) (sym whole ∙ is)

-- twenty digits are read back
pub sized : (digits bytes : List ℕ) → length bytes ≡ 10 → IsBytes bytes → digits ≡ encode_lower bytes → decode_sized digits 10 ≡ Ok bytes
sized digits bytes ten are is =
    let twice : length (encode_lower bytes) ≡ 2 * 10 = length-encode_with lower_digits bytes ∙ ap (λ (k : ℕ). 2 * k) ten in
    ap (λ (ds : List ℕ). decode_sized ds 10) is ∙ decode_sized-twice (encode_lower bytes) 10 twice ∙ decode_of-encode_lower bytes are

-- a text is cut behind its first line
lines_cut : (i k : ℕ) (text : List ℕ) → position_from is_end i text ≡ Some k → (d : ℕ) × (k ≡ i + d) × (lines_of text ≡ take d text ∷ lines_of (drop (suc d) text))
lines_cut i k [] h = cc
lines_cut i k (c ∷ cs) h = step (is_end c) refl h (lines_cut (i + 1) k cs)
  where
    step : (b : Bool) → is_end c ≡ b → cond b (Some i) (position_from is_end (i + 1) cs) ≡ Some k
        → (position_from is_end (i + 1) cs ≡ Some k → (d : ℕ) × (k ≡ i + 1 + d) × (lines_of cs ≡ take d cs ∷ lines_of (drop (suc d) cs)))
        → (d : ℕ) × (k ≡ i + d) × (lines_of (c ∷ cs) ≡ take d (c ∷ cs) ∷ lines_of (drop (suc d) (c ∷ cs)))
    step true e g go =
        let f : i ≡ k = cc in
        (0, omega arith, rw e refl)
    step false e g go =
        let r = go g in
        let l : k ≡ i + 1 + r.0 = r.1 in
        (suc r.0, omega arith, rw e (ap (λ ls. onto_line c ls) r.2))

pub cut_first : (at : ℕ) (text : List ℕ) → Some at ≡ position_from is_end 0 text
    → lines_of text ≡ take at text ∷ lines_of (take (length text - (at + 1)) (drop (at + 1) text))
cut_first at text h = step (lines_cut 0 at text (sym h))
  where
    step : (d : ℕ) × (at ≡ 0 + d) × (lines_of text ≡ take d text ∷ lines_of (drop (suc d) text))
        → lines_of text ≡ take at text ∷ lines_of (take (length text - (at + 1)) (drop (at + 1) text))
    step r =
        let e : at ≡ r.0 = omega (arith, r.1) in
        let f : at + 1 ≡ suc r.0 = omega arith in
        let g : take (length text - (at + 1)) (drop (at + 1) text) ≡ drop (suc r.0) text =
        rw f (take_all (length text - suc r.0) (drop (suc r.0) text) (let l = length-drop (suc r.0) text in omega (arith, l))) in
        rw (g, e) r.2

-- one without an end is a line
lines_last : (i c : ℕ) (text : List ℕ) → position_from is_end i (c ∷ text) ≡ None → lines_of (c ∷ text) ≡ (c ∷ text) ∷ []
lines_last i c [] h = step (is_end c) refl h
  where
    step : (b : Bool) → is_end c ≡ b → cond b (Some i) None ≡ None → lines_of (c ∷ []) ≡ (c ∷ []) ∷ []
    step true e g = cc
    step false e g = rw e refl
lines_last i c (d ∷ text) h = step (is_end c) refl h (lines_last (i + 1) d text)
  where
    step : (b : Bool) → is_end c ≡ b → cond b (Some i) (position_from is_end (i + 1) (d ∷ text)) ≡ None
        → (position_from is_end (i + 1) (d ∷ text) ≡ None → lines_of (d ∷ text) ≡ (d ∷ text) ∷ []) → lines_of (c ∷ d ∷ text) ≡ (c ∷ d ∷ text) ∷ []
    step true e g go = cc
    step false e g go = rw e (ap (λ ls. onto_line c ls) (go g))

pub only_line : (text : List ℕ) → 0 < length text → None ≡ position_from is_end 0 text → lines_of text ≡ text ∷ []
only_line [] some h = absurd (omega (arith, some))
only_line (c ∷ text) some h = lines_last 0 c text (sym h)

-- a member's number is a small one
pub few_members : (size : Size) → IsSize size → (a : ℕ) → a < size.n → (a < 2 ^ 8) × (a < 2 ^ 64)
few_members size lawful a l = let most = lawful.most in (omega (arith, l, most), let big : 32 < 2 ^ 64 = omega arith in omega (arith, l, most, big))

-- a frame is ten bytes
kind_small : (k : Kind) → kind_byte k < 256
kind_small Initial = omega arith
kind_small Echo = omega arith
kind_small Ready = omega arith

value_small : (v : Value) → value_code v < 256
value_small Zero = omega arith
value_small One = omega arith
value_small SureZero = omega arith
value_small SureOne = omega arith
value_small Unsure = omega arith

step_small : (step : ℕ) (v : Value) → FitsStep step v → step < 256
step_small zero v h = absurd h
step_small (suc zero) v h = omega arith
step_small (suc (suc zero)) v h = omega arith
step_small (suc (suc (suc zero))) v h = omega arith
step_small (suc (suc (suc (suc step)))) v h = absurd h

pub frame_is_bytes : (size : Size) → IsSize size → (s : Statement) → IsWellFormed size s
    → (length (frame_bytes (message.Statement s)) ≡ 10) × IsBytes (frame_bytes (message.Statement s))
frame_is_bytes size lawful s w = (refl, λ i. small i)
  where
    small : (i : ℕ) → slice_index (frame_bytes (message.Statement s)) i < 256
    small zero = omega arith
    small (suc zero) = omega arith
    small (suc (suc zero)) = omega arith
    small (suc (suc (suc zero))) = kind_small s.kind
    small (suc (suc (suc (suc zero)))) = omega arith
    small (suc (suc (suc (suc (suc zero))))) = omega arith
    small (suc (suc (suc (suc (suc (suc zero)))))) = omega (arith, w.origin, lawful.most)
    small (suc (suc (suc (suc (suc (suc (suc zero))))))) = omega (arith, w.to_last)
    small (suc (suc (suc (suc (suc (suc (suc (suc zero)))))))) = step_small s.place.step s.value w.value
    small (suc (suc (suc (suc (suc (suc (suc (suc (suc zero))))))))) = value_small s.value
    small (suc (suc (suc (suc (suc (suc (suc (suc (suc (suc i)))))))))) = omega arith

-- the parts of a first line behind one another
pub first_parts : (old one two three four five a b_now b d_now d e_now e : List ℕ) → one ≡ old ++ a → two ≡ one ++ b_now → three ≡ two ++ 32 ∷ [] → four ≡ three ++ d_now → five ≡ four ++ e_now
    → b_now ≡ b → d_now ≡ d → e_now ≡ e → five ≡ old ++ (a ++ (b ++ 32 ∷ (d ++ e)))
first_parts old one two three four five a b_now b d_now d e_now e f g h k l b_is d_is e_is =
    l ∙ (λ i. k i ++ e_now) ∙ (λ i. (h i ++ d_now) ++ e_now) ∙ (λ i. ((g i ++ 32 ∷ []) ++ d_now) ++ e_now) ∙ (λ i. (((f i ++ b_is i) ++ 32 ∷ []) ++ d_is i) ++ e_is i)
    ∙ append_assoc (((old ++ a) ++ b) ++ 32 ∷ []) d e ∙ append_assoc ((old ++ a) ++ b) (32 ∷ []) (d ++ e) ∙ append_assoc (old ++ a) b (32 ∷ (d ++ e)) ∙ append_assoc old a (b ++ 32 ∷ (d ++ e))

-- words that name neither bit name none
pub no_bit : (words : List ℕ) → ((count : List ℕ) → words ≡ codes "bit 0 count " ++ count → ⊥) → ((count : List ℕ) → words ≡ codes "bit 1 count " ++ count → ⊥)
    → (bit : Bool) (count : List ℕ) → words ≡ bit_words bit ++ count → ⊥
no_bit words no_zero no_one true count is = no_one count is
no_bit words no_zero no_one false count is = no_zero count is
