-- One word more.
use Rattle.std.proofs.Common.{ℕ, zero, suc, ◌≡◌, ◌≢◌, ◌⊎◌, ◌+◌, ◌<◌, ◌≤◌, ◌==◌, inl, inr, refl, sym, ap, subst, ◌∙◌, arith, Bool, true, false, cond, Option, Some, None, option_map, List, [], ◌∷◌, ◌++◌, length, nat_lt, if◌then◌else◌, eqb, eq-eqb, append_assoc, append-nil}
use Rattle.std.specs.Bool.{beq}
use Rattle.std.proofs.lemmas.Bool.Decides.{nat_tests}
use Rattle.terms_prelude.specs.Terms.{Size, Value, count_below, plain, value_is, keep_or, given}
use Rattle.terms.proofs.Count.{count-ext, count-mono}
use Rattle.votes.specs.Votes.{fits, value_of}
use Rattle.votes.specs.declared.Votes.{Votes}
use Rattle.client.specs.Readings.{AreEnough, DecidesBy, HasNoDecision, IsDecision, decision_with, first_word, has_told, is_bit, votes_for}

abbrev pub Words : Type 0
Words = List (ℕ × Bool)

-- the first words with one word more
pub first_more : (words : Words) (m : ℕ) (bit : Bool) (k : ℕ) → first_word (words ++ (m, bit) ∷ []) k ≡ keep_or (first_word words k) (given (m == k) bit)
first_more [] m bit k = refl
first_more (w ∷ words) m bit k = step (w.0 == k) (first_more words m bit k)
  where
    step : (t : Bool) → first_word (words ++ (m, bit) ∷ []) k ≡ keep_or (first_word words k) (given (m == k) bit)
        → (if t then Some w.1 else first_word (words ++ (m, bit) ∷ []) k) ≡ keep_or (if t then Some w.1 else first_word words k) (given (m == k) bit)
    step true e = refl
    step false e = e

keep_none : {A : Type 0} (x : Option A) → keep_or x None ≡ x
keep_none None = refl
keep_none (Some y) = refl

-- a member that told something before tells nothing new
pub first_again : (words : Words) (m : ℕ) (bit told : Bool) → first_word words m ≡ Some told → (k : ℕ) → first_word (words ++ (m, bit) ∷ []) k ≡ first_word words k
first_again words m bit told was k = first_more words m bit k ∙ step (m == k) refl
  where
    step : (t : Bool) → (m == k) ≡ t → keep_or (first_word words k) (given t bit) ≡ first_word words k
    step false e = keep_none (first_word words k)
    step true e =
        let same : m ≡ k = grind (arith, nat_tests, e) in
        let is : first_word words k ≡ Some told = subst (λ (j : ℕ). first_word words j ≡ Some told) same was in
        ap (λ (x : Option Bool). keep_or x (Some bit)) is ∙ sym is

-- a first word stands whatever comes behind it
first_stays : (words more : Words) (k : ℕ) (b : Bool) → first_word words k ≡ Some b → first_word (words ++ more) k ≡ Some b
first_stays [] more k b e = absurd (cc (e))
first_stays (w ∷ words) more k b e = step (w.0 == k) e (first_stays words more k b)
  where
    step : (t : Bool) → (if t then Some w.1 else first_word words k) ≡ Some b → (first_word words k ≡ Some b → first_word (words ++ more) k ≡ Some b)
        → (if t then Some w.1 else first_word (words ++ more) k) ≡ Some b
    step true e on = e
    step false e on = on e

told_is : (x : Option Bool) (b : Bool) → is_bit x b ≡ true → x ≡ Some b
told_is None b e = absurd (cc (e))
told_is (Some true) true e = refl
told_is (Some false) false e = refl
told_is (Some true) false e = absurd (cc (e))
told_is (Some false) true e = absurd (cc (e))

is_told : (b : Bool) → is_bit (Some b) b ≡ true
is_told true = refl
is_told false = refl

-- so what is enough stays enough
enough_more : (size : Size) (words more : Words) (b : Bool) → AreEnough size words b → AreEnough size (words ++ more) b
enough_more size words more b enough =
    let low = count-mono size.n (has_told words b) (has_told (words ++ more) b)
    (λ a less is. ap (λ (x : Option Bool). is_bit x b) (first_stays words more a b (told_is (first_word words a) b is)) ∙ is_told b) in
    omega (arith, low, enough)

-- what was decided stays decided
decision_more : (size : Size) (words more : Words) (b : Bool) → IsDecision size words b → IsDecision size (words ++ more) b
decision_more size words more b d = record {
  front = d.front;
  rest = d.rest ++ more;
  whole = ap (λ (l : Words). l ++ more) d.whole ∙ append_assoc d.front d.rest more;
  enough = d.enough;
  first = d.first;
}

same_told : (words others : Words) (b : Bool) (k : ℕ) → first_word words k ≡ first_word others k → has_told words b k ≡ has_told others b k
same_told words others b k e = ap (λ (x : Option Bool). is_bit x b) e

-- words that tell nothing new decide nothing new
pub decides_again : (size : Size) (words : Words) (m : ℕ) (bit : Bool) (d : Option Bool)
    → ((k : ℕ) → first_word (words ++ (m, bit) ∷ []) k ≡ first_word words k) → DecidesBy size words d → DecidesBy size (words ++ (m, bit) ∷ []) d
decides_again size words m bit (Some b) same is = decision_more size words ((m, bit) ∷ []) b is
decides_again size words m bit None same none = λ b enough.
    none b (subst (λ (n : ℕ). size.t < n) (count-ext size.n (has_told (words ++ (m, bit) ∷ []) b) (has_told words b) (λ a l. same_told (words ++ (m, bit) ∷ []) words b a (same a))) enough)

-- a list whose end is one word
split_last : (words earlier more : Words) (x : ℕ × Bool) → words ++ x ∷ [] ≡ earlier ++ more → 0 < length more → (rest : Words) × (words ≡ earlier ++ rest)
split_last words [] more x e some = (words, refl)
split_last [] (y ∷ []) [] x e some = absurd (omega (arith, some))
split_last [] (y ∷ []) (z ∷ more) x e some = absurd (cc (e))
split_last [] (y ∷ u ∷ earlier) more x e some = absurd (cc (e))
split_last (w ∷ words) (y ∷ earlier) more x e some =
    let tail : words ++ x ∷ [] ≡ earlier ++ more = cc (e) in
    let head : w ≡ y = cc (e) in
    let rest = split_last words earlier more x tail some in
    (rest.0, cc (head, rest.1))

-- the word that makes it enough
first_enough : (size : Size) (words : Words) (m : ℕ) (bit : Bool) → HasNoDecision size words → AreEnough size (words ++ (m, bit) ∷ []) bit
    → IsDecision size (words ++ (m, bit) ∷ []) bit
first_enough size words m bit none enough = record {
  front = words ++ (m, bit) ∷ [];
  rest = [];
  whole = sym (append-nil (words ++ (m, bit) ∷ []));
  enough = enough;
  first = λ earlier more other is some early.
      (let rest = split_last words earlier more (m, bit) is some in
      none other (subst (λ (l : Words). AreEnough size l other) (sym rest.1) (enough_more size earlier rest.0 other early)));
}

-- votes for a bit are who told it
vote_is : (x : Option Bool) (b : Bool) → value_is (option_map plain x) (plain b) ≡ is_bit x b
vote_is None true = refl
vote_is None false = refl
vote_is (Some true) true = refl
vote_is (Some true) false = refl
vote_is (Some false) true = refl
vote_is (Some false) false = refl

votes_are : (size : Size) (votes : Votes) (words : Words) (b : Bool) → ((k : ℕ) → value_of false votes k ≡ option_map plain (first_word words k))
    → votes_for size votes b ≡ count_below size.n (has_told words b)
votes_are size votes words b are =
    count-ext size.n (λ k. value_is (value_of false votes k) (plain b)) (has_told words b)
    (λ a l. ap (λ (v : Option Value). value_is v (plain b)) (are a) ∙ vote_is (first_word words a) b)

other_told : (words : Words) (m : ℕ) (bit b : Bool) → first_word words m ≡ None → beq bit b ≡ false → (k : ℕ)
    → has_told (words ++ (m, bit) ∷ []) b k ≡ has_told words b k
other_told words m bit b none differs k = ap (λ (x : Option Bool). is_bit x b) (first_more words m bit k) ∙ step (m == k) refl
  where
    step : (t : Bool) → (m == k) ≡ t → is_bit (keep_or (first_word words k) (given t bit)) b ≡ is_bit (first_word words k) b
    step false e = ap (λ (x : Option Bool). is_bit x b) (keep_none (first_word words k))
    step true e =
        let same : m ≡ k = grind (arith, nat_tests, e) in
        let is : first_word words k ≡ None = subst (λ (j : ℕ). first_word words j ≡ None) same none in
        ap (λ (x : Option Bool). is_bit (keep_or x (Some bit)) b) is ∙ differs ∙ sym (ap (λ (x : Option Bool). is_bit x b) is)

same_bit : (bit b : Bool) → (beq bit b ≡ false) ⊎ (b ≡ bit)
same_bit true true = inr refl
same_bit false false = inr refl
same_bit true false = inl refl
same_bit false true = inl refl

-- a member that told nothing before tells its first word
pub decides_more : (size : Size) (words : Words) (m : ℕ) (bit : Bool) (votes : Votes) (d : Option Bool) → first_word words m ≡ None
    → ((k : ℕ) → value_of false votes k ≡ option_map plain (first_word (words ++ (m, bit) ∷ []) k)) → DecidesBy size words d
    → DecidesBy size (words ++ (m, bit) ∷ []) (decision_with size votes d bit)
decides_more size words m bit votes (Some b) free are is = decision_more size words ((m, bit) ∷ []) b is
decides_more size words m bit votes None free are none = step (nat_lt size.t (votes_for size votes bit)) refl
  where
    counted : votes_for size votes bit ≡ count_below size.n (has_told (words ++ (m, bit) ∷ []) bit)
    counted = votes_are size votes (words ++ (m, bit) ∷ []) bit are

    step : (t : Bool) → nat_lt size.t (votes_for size votes bit) ≡ t → DecidesBy size (words ++ (m, bit) ∷ []) (if t then Some bit else None)
    step true e =
        let more : size.t < votes_for size votes bit = grind (arith, nat_tests, e) in
        first_enough size words m bit none (subst (λ (n : ℕ). size.t < n) counted more)
    step false e = λ b enough. elim (same_bit bit b) [
      | inl differs ↦ none b (subst (λ (n : ℕ). size.t < n)
          (count-ext size.n (has_told (words ++ (m, bit) ∷ []) b) (has_told words b) (λ a l. other_told words m bit b free differs a)) enough)
      | inr is ↦ (let few : votes_for size votes bit ≤ size.t = grind (arith, nat_tests, e) in
          let now : size.t < votes_for size votes bit = subst (λ (n : ℕ). size.t < n) (sym counted) (subst (λ (c : Bool). AreEnough size (words ++ (m, bit) ∷ []) c) is enough) in
          absurd (omega (arith, few, now)))
    ]

-- the votes with one more are the first words with one more
kept_plain : (x : Option Bool) (t : Bool) (bit : Bool) → keep_or (option_map plain x) (given t (plain bit)) ≡ option_map plain (keep_or x (given t bit))
kept_plain None true bit = refl
kept_plain None false bit = refl
kept_plain (Some b) t bit = refl

pub votes_more : (words : Words) (m : ℕ) (bit : Bool) (old new : Votes) → ((k : ℕ) → value_of false old k ≡ option_map plain (first_word words k))
    → ((k : ℕ) → value_of false new k ≡ keep_or (value_of false old k) (given (m == k) (plain bit)))
    → (k : ℕ) → value_of false new k ≡ option_map plain (first_word (words ++ (m, bit) ∷ []) k)
votes_more words m bit old new are more k =
    more k ∙ ap (λ (x : Option Value). keep_or x (given (m == k) (plain bit))) (are k) ∙ kept_plain (first_word words k) (m == k) bit
    ∙ ap (option_map plain) (sym (first_more words m bit k))

-- who has no vote told nothing
pub told_nothing : (x : Option Bool) → option_map plain x ≡ None → x ≡ None
told_nothing None e = refl
told_nothing (Some b) e = absurd (cc (e))

pub told_something : (x : Option Bool) (v : Value) → option_map plain x ≡ Some v → (b : Bool) × (x ≡ Some b)
told_something None v e = absurd (cc (e))
told_something (Some b) v e = (b, refl)

-- a count of votes for a bit
pub counted_for : (size : Size) (votes : Votes) (bit : Bool) (value : Value) (count : ℕ) → value ≡ plain bit
    → count ≡ count_below size.n (λ member. value_is (value_of false votes member) value) → (t : Bool) → nat_lt size.t count ≡ t
    → nat_lt size.t (votes_for size votes bit) ≡ t
counted_for size votes bit value count is counted t e =
    ap (λ (n : ℕ). nat_lt size.t n) (sym (counted ∙ ap (λ (v : Value). count_below size.n (λ member. value_is (value_of false votes member) v)) is)) ∙ e

abbrev one_if : Bool → ℕ
one_if b = cond b 1 0

none_pass : (n : ℕ) (P : ℕ → Bool) → ((a : ℕ) → P a ≡ false) → count_below n P ≡ 0
none_pass zero P none = refl
none_pass (suc n) P none =
    let here : one_if (P n) ≡ 0 = ap one_if (none n) in
    omega (arith, here, none_pass n P none)

-- nobody told anything
pub nothing_told : (size : Size) (votes : Votes) → ((third : Bool) → (member : ℕ) → value_of third votes member ≡ None)
    → ((member : ℕ) → value_of false votes member ≡ option_map plain (first_word [] member)) × HasNoDecision size []
nothing_told size votes nobody = (λ m. nobody false m, λ b enough. (let none = none_pass size.n (has_told [] b) (λ a. refl) in absurd (omega (arith, none, enough))))

-- a vote for a bit fits the first two steps
pub vote_fits : (old new : Votes) (m : ℕ) (bit : Bool) (value : Value) → value ≡ plain bit → value_of false old m ≡ None
    → ((third : Bool) → fits third value ≡ true → value_of third old m ≡ None → (other : ℕ) → value_of third new other ≡ keep_or (value_of third old other) (given (m == other) value))
    → (k : ℕ) → value_of false new k ≡ keep_or (value_of false old k) (given (m == k) (plain bit))
vote_fits old new m bit value is free first k =
    first false (ap (fits false) is ∙ plain_fits bit) free k ∙ ap (λ (v : Value). keep_or (value_of false old k) (given (m == k) v)) is
  where
    plain_fits : (b : Bool) → fits false (plain b) ≡ true
    plain_fits true = refl
    plain_fits false = refl

-- a decision's bit was told by more than t
pub enough_told : (size : Size) (words : Words) (v : Bool) → IsDecision size words v → AreEnough size words v
enough_told size words v d = subst (λ (l : Words). AreEnough size l v) (sym d.whole) (enough_more size d.front d.rest v d.enough)

pub told_first : (words : Words) (v : Bool) (m : ℕ) → has_told words v m ≡ true → first_word words m ≡ Some v
told_first words v m told = told_is (first_word words m) v told
