-- The lines of a text are what stands between its bytes 10, but for nothing behind the last.
use Rattle.std.proofs.Common.{ℕ, suc, ◌≡◌, ◌+◌, ◌-◌, ◌≤◌, ◌==◌, refl, sym, ap, ◌∙◌, arith, Bool, true, false, cond, List, [], ◌∷◌, length, Bor, if◌then◌else◌}
use mir.Val.{bool_byte}
use Rattle.std.specs.List.{slice_split, onto_first}
use Rattle.script.specs.Words.{Page, is_comment, said_from, page_from, texts, is_empty, ends_empty}
use Rattle.numerals.specs.Lines.{onto_line, lines_of}

-- all but an empty last one
abbrev pub without_last : List (List ℕ) → List (List ℕ)
without_last [] = []
without_last (line ∷ []) = if is_empty line then [] else line ∷ []
without_last (line ∷ next ∷ lines) = line ∷ without_last (next ∷ lines)

-- some part there is
pub record Some1 (parts : List (List ℕ)) : Type 0 where
  pub first : List ℕ
  pub others : List (List ℕ)
  pub is : parts ≡ first ∷ others

onto_first_some : (b : ℕ) (parts : List (List ℕ)) → Some1 (onto_first b parts)
onto_first_some b [] = record { first = b ∷ []; others = []; is = refl }
onto_first_some b (p ∷ ps) = record { first = b ∷ p; others = ps; is = refl }

abbrev pub parts_of : List ℕ → List (List ℕ)
parts_of text = slice_split (λ b. b == 10) text

pub some_part : (text : List ℕ) → Some1 (parts_of text)
some_part [] = record { first = []; others = []; is = refl }
some_part (b ∷ bytes) = step (b == 10)
  where
    step : (t : Bool) → Some1 (cond t ([] ∷ parts_of bytes) (onto_first b (parts_of bytes)))
    step true = record { first = []; others = parts_of bytes; is = refl }
    step false = onto_first_some b (parts_of bytes)

-- an empty part before others stays
stays : (parts : List (List ℕ)) → Some1 parts → [] ∷ without_last parts ≡ without_last ([] ∷ parts)
stays [] s = let e : [] ≡ s.first ∷ s.others = s.is in cc
stays (p ∷ ps) s = refl

-- a byte before the first part
onto : (b : ℕ) (parts : List (List ℕ)) → Some1 parts → onto_line b (without_last parts) ≡ without_last (onto_first b parts)
onto b [] s = let e : [] ≡ s.first ∷ s.others = s.is in cc
onto b ([] ∷ []) s = refl
onto b ((c ∷ p) ∷ []) s = refl
onto b (p ∷ q ∷ ps) s = refl

pub lines_are : (text : List ℕ) → lines_of text ≡ without_last (parts_of text)
lines_are [] = refl
lines_are (b ∷ bytes) = step (b == 10) (lines_are bytes)
  where
    step : (t : Bool) → lines_of bytes ≡ without_last (parts_of bytes)
        → (if t then [] ∷ lines_of bytes else onto_line b (lines_of bytes)) ≡ without_last (cond t ([] ∷ parts_of bytes) (onto_first b (parts_of bytes)))
    step true e = ap (λ (ls : List (List ℕ)). [] ∷ ls) e ∙ stays (parts_of bytes) (some_part bytes)
    step false e = ap (λ (ls : List (List ℕ)). onto_line b ls) e ∙ onto b (parts_of bytes) (some_part bytes)

-- what is said is the same
pub same_said : (k : ℕ) (parts : List (List ℕ)) → said_from k parts ≡ said_from k (without_last parts)
same_said k [] = refl
same_said k ([] ∷ []) = refl
same_said k ((c ∷ p) ∷ []) = refl
same_said k (p ∷ q ∷ ps) = step (is_comment p) (same_said (k + 1) (q ∷ ps))
  where
    step : (t : Bool) → said_from (k + 1) (q ∷ ps) ≡ said_from (k + 1) (without_last (q ∷ ps))
        → cond t (said_from (k + 1) (q ∷ ps)) ((k, p) ∷ said_from (k + 1) (q ∷ ps))
        ≡ cond t (said_from (k + 1) (without_last (q ∷ ps))) ((k, p) ∷ said_from (k + 1) (without_last (q ∷ ps)))
    step true e = e
    step false e = ap (λ (ls : List (ℕ × List ℕ)). (k, p) ∷ ls) e

-- the number of a test
abbrev pub as_number : Bool → ℕ
as_number t = cond t 1 0

-- how many lines there are
pub how_many : (parts : List (List ℕ)) → length (without_last parts) ≡ length parts - as_number (ends_empty parts)
how_many [] = refl
how_many ([] ∷ []) = refl
how_many ((c ∷ p) ∷ []) = refl
how_many (p ∷ q ∷ ps) = step (ends_empty (q ∷ ps)) (how_many (q ∷ ps))
  where
    step : (t : Bool) → length (without_last (q ∷ ps)) ≡ length (q ∷ ps) - as_number t
        → suc (length (without_last (q ∷ ps))) ≡ length (p ∷ q ∷ ps) - as_number t
    step true e = omega arith
    step false e = omega arith

as_byte : (t : Bool) → bool_byte t ≡ as_number t
as_byte true = refl
as_byte false = refl

at_most_one : (t : Bool) → as_number t ≤ 1
at_most_one true = omega arith
at_most_one false = omega arith

length-texts : (ws : List (Bor (List ℕ))) → length (texts ws) ≡ length ws
length-texts [] = refl
length-texts (w ∷ ws) = ap suc (length-texts ws)

-- what the code has for a page
pub page_is : (text : List ℕ) (parts : List (Bor (List ℕ))) (found : List (ℕ × List ℕ)) (len b : ℕ) (t : Bool)
    → texts parts ≡ parts_of text → found ≡ said_from 1 (texts parts) → len ≡ length parts → b ≡ bool_byte t → t ≡ ends_empty (texts parts)
    → ◌≡◌ {A = Page} (record { said = found; next = 1 + len - b }) (page_from text)
page_is text parts found len b t parts_are said_is len_is b_is t_is =
    let s = some_part text in
    let lines = lines_are text in
    let said : found ≡ said_from 1 (lines_of text) =
    said_is ∙ (ap (said_from 1) parts_are ∙ (same_said 1 (parts_of text) ∙ ap (said_from 1) (sym lines)))
    in
    let many = how_many (parts_of text) in
    let test : t ≡ ends_empty (parts_of text) = t_is ∙ ap ends_empty parts_are in
    let byte : b ≡ as_number (ends_empty (parts_of text)) = b_is ∙ (as_byte t ∙ ap as_number test) in
    let one = at_most_one (ends_empty (parts_of text)) in
    let some : length (parts_of text) ≡ suc (length s.others) = ap (λ (ps : List (List ℕ)). length ps) s.is in
    let all : len ≡ length (parts_of text) = len_is ∙ (sym (length-texts parts) ∙ ap (λ (ps : List (List ℕ)). length ps) parts_are) in
    let count : length (lines_of text) ≡ length (without_last (parts_of text)) = ap (λ (ps : List (List ℕ)). length ps) lines in
    let next : 1 + len - b ≡ length (lines_of text) + 1 = omega arith in
    rw (said, next) refl
