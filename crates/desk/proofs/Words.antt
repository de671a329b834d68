-- What a text asks, it asks in one way.
use Rattle.std.proofs.Common.{ℕ, ◌≡◌, ◌<◌, ◌^◌, ◌++◌, arith, refl, sym, ◌∙◌, subst, ap, Bool, Option, Some, None, List, ◌∷◌, codes, get_or}
use Rattle.std.specs.Str.Parse.{digits_value}
use Rattle.std.proofs.lemmas.Int.Digits.{digits_value-lt}
use Rattle.std.proofs.Math.Nat.{pow-le-pow_right}
use Rattle.desk.specs.declared.line.LineRequest.{LineRequest}
use Rattle.desk.specs.declared.line.LineRequest.TheVariants.{Propose, Ask, Await, Status, Transcript, Links, State}
use Rattle.numerals.specs.Numbers.{IsBelow}
use Rattle.numerals.specs.Spaces.{NoSpace}
use Rattle.desk.specs.Lines.{IsQuestion, IsWord, IsBitWord, IsProposal, Asks}
use Rattle.numerals.proofs.Cuts.{digits_spaceless, one_cut, no_cut}

-- five digits write a small number
pub number_of : (digits : List ℕ) (question : ℕ) → IsQuestion digits question → IsBelow 64 digits question
number_of digits question is =
    let value : digits_value 10 digits ≡ question = is.value in
    let small = digits_value-lt 10 digits is.digits_are.1 in
    let few = pow-le-pow_right {n = 10} (omega arith) is.few in
    let big : 10 ^ 5 < 2 ^ 64 = omega arith in
    record { number_is = record { digits_are = is.digits_are; value = value }; below = omega (arith, small, few, big, value) }

-- the parts of a proposal are those at its first space
pub parts_are : (text digits word : List ℕ) (question : ℕ) (bit : Option Bool) → text ≡ digits ++ 32 ∷ word → NoSpace digits
    → (p : IsProposal text question bit) → (p.digits ≡ digits) × (p.word ≡ word)
parts_are text digits word question bit whole none p =
    one_cut p.digits digits p.word word (digits_spaceless p.digits p.question_is.digits_are.1) none (sym p.whole ∙ whole)

-- so its question is that of what stands before the space
pub question_at : (text digits word : List ℕ) (question : ℕ) (bit : Option Bool) → text ≡ digits ++ 32 ∷ word → NoSpace digits
    → IsProposal text question bit → IsQuestion digits question
question_at text digits word question bit whole none p =
    subst (λ ds. IsQuestion ds question) (parts_are text digits word question bit whole none p).0 p.question_is

pub word_at : (text digits word : List ℕ) (question : ℕ) (bit : Option Bool) → text ≡ digits ++ 32 ∷ word → NoSpace digits
    → IsProposal text question bit → IsWord word × IsBitWord word bit
word_at text digits word question bit whole none p =
    let e = (parts_are text digits word question bit whole none p).1 in
    (subst IsWord e p.word_is, subst (λ w. IsBitWord w bit) e p.bit_is)

-- a text without a space is no proposal
pub no_proposal : (text : List ℕ) (question : ℕ) (bit : Option Bool) → NoSpace text → IsProposal text question bit → ⊥
no_proposal text question bit none p = no_cut text p.digits p.word none p.whole

-- where a text begins with `PROPOSE `, it asks what the rest proposes
pub proposes : (text rest : List ℕ) (asked : LineRequest) → text ≡ codes "PROPOSE " ++ rest → Asks text asked
    → (question : ℕ) × (bit : Option Bool) × (asked ≡ Propose question bit) × IsProposal rest question bit
proposes text rest (Propose question bit) is (other, whole, p) =
    let e : codes "PROPOSE " ++ other ≡ codes "PROPOSE " ++ rest = sym whole ∙ is in
    let same : other ≡ rest = cc in
    (question, bit, refl, subst (λ r. IsProposal r question bit) same p)
proposes text rest (Ask question) is (digits, whole, q) =
    let first : 65 ≡ 80 = ap (λ (bytes : List ℕ). get_or bytes 0 0) (sym whole ∙ is) in absurd (omega (arith, first))
proposes text rest (Await question) is (digits, whole, q) =
    let first : 65 ≡ 80 = ap (λ (bytes : List ℕ). get_or bytes 0 0) (sym whole ∙ is) in absurd (omega (arith, first))
proposes text rest (Transcript question) is (digits, whole, q) =
    let first : 84 ≡ 80 = ap (λ (bytes : List ℕ). get_or bytes 0 0) (sym whole ∙ is) in absurd (omega (arith, first))
proposes text rest Status is whole =
    let first : 83 ≡ 80 = ap (λ (bytes : List ℕ). get_or bytes 0 0) (sym whole ∙ is) in absurd (omega (arith, first))
proposes text rest Links is whole =
    let first : 76 ≡ 80 = ap (λ (bytes : List ℕ). get_or bytes 0 0) (sym whole ∙ is) in absurd (omega (arith, first))
proposes text rest (State question) is (digits, whole, q) =
    let first : 83 ≡ 80 = ap (λ (bytes : List ℕ). get_or bytes 0 0) (sym whole ∙ is) in absurd (omega (arith, first))

-- the parts of equal pairs
pair_parts : (q r : ℕ) (b d : Option Bool) → ◌≡◌ {A = Option (ℕ × Option Bool)} (Some (q, b)) (Some (r, d)) → (q ≡ r) × (b ≡ d)
pair_parts q r b d e =
    let pair : (q, b) ≡ (r, d) = cc in
    (ap (λ (p : ℕ × Option Bool). p.0) pair, ap (λ (p : ℕ × Option Bool). p.1) pair)

no_pair : (r : ℕ) (d : Option Bool) → ◌≡◌ {A = Option (ℕ × Option Bool)} None (Some (r, d)) → ⊥
no_pair r d e = absurd (cc)

-- what the rest proposes is what the text asks
pub proposed : (text rest : List ℕ) (asked : LineRequest) (q : ℕ) (b : Option Bool) → text ≡ codes "PROPOSE " ++ rest
    → ((question : ℕ) (bit : Option Bool) → IsProposal rest question bit → ◌≡◌ {A = Option (ℕ × Option Bool)} (Some (q, b)) (Some (question, bit)))
    → Asks text asked → ◌≡◌ {A = Option LineRequest} (Some (Propose q b)) (Some asked)
proposed text rest asked q b is exact asks =
    let p = proposes text rest asked is asks in
    let same = pair_parts q p.0 b p.1 (exact p.0 p.1 p.3) in
    rw (p.2, same.0, same.1) refl

-- where the rest proposes nothing, the text asks nothing
pub not_proposed : (text rest : List ℕ) (asked : LineRequest) → text ≡ codes "PROPOSE " ++ rest
    → ((question : ℕ) (bit : Option Bool) → IsProposal rest question bit → ◌≡◌ {A = Option (ℕ × Option Bool)} None (Some (question, bit)))
    → Asks text asked → ⊥
not_proposed text rest asked is exact asks =
    let p = proposes text rest asked is asks in
    no_pair p.0 p.1 (exact p.0 p.1 p.3)
