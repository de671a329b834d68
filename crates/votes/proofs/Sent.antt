-- What each member sent: after one more vote, and as the masks of those who sent a value.
use Rattle.std.proofs.Common.{ℕ, zero, suc, ◌≡◌, ◌+◌, ◌-◌, ◌%◌, ◌^◌, ◌<◌, Bool, true, false, ◌&&◌, ◌||◌, ◌⊎◌, inl, inr, eqb, refl, sym, ap, subst, ◌∙◌, arith, max, min, Option, Some, None, bit_and, bit_or, bit_xor, count_ones, true≢false, eqb-true}
use Rattle.std.proofs.lemmas.Nat.Bits.{bit_at_and, bit_at_or, bit_at_xor, bit_at-lt, bit_at-zero}
use Rattle.std.proofs.lemmas.Bool.{false≢true}
use Rattle.std.specs.Int.{bit_at}
use Rattle.terms_prelude.specs.Terms.{Value, Zero, One, SureZero, SureOne, Unsure, count_below, keep_or, given, value_is}
use Rattle.terms.proofs.Count.{count-ext}
use Rattle.votes.specs.declared.Votes.{Votes}
use Rattle.votes.specs.Votes.{has_bit, with_bit, one_value, fits, value_at, value_of, no_votes, with_vote}
use Rattle.votes.proofs.Bits.{bit_more, ones_among}

-- nothing more is kept
pub keep_None : {A : Type 0} (x : Option A) → keep_or x None ≡ x
keep_None None = refl
keep_None (Some x) = refl

-- the value sets the bit of Zero, and that of One
abbrev pub of_zero : Value → Bool
of_zero Zero = true
of_zero One = false
of_zero SureZero = true
of_zero SureOne = false
of_zero Unsure = true

abbrev pub of_one : Value → Bool
of_one Zero = false
of_one One = true
of_one SureZero = false
of_one SureOne = true
of_one Unsure = true

-- a value that was sent fits
pub value_fits : (third : Bool) (votes : Votes) (a : ℕ) (v : Value) → value_of third votes a ≡ Some v → fits third v ≡ true
unfolding value_of
value_fits third votes a v e = at third (has_bit votes.zero a) (has_bit votes.one a) v e
  where
    same : (third : Bool) (w v : Value) → fits third w ≡ true → Some w ≡ Some v → fits third v ≡ true
    same third w v f e = let g : w ≡ v = cc in subst (λ x. fits third x ≡ true) g f

    at : (third z o : Bool) (v : Value) → value_at third z o ≡ Some v → fits third v ≡ true
    at false true o v e = same false Zero v refl e
    at false false true v e = same false One v refl e
    at false false false v e = cc
    at true true true v e = same true Unsure v refl e
    at true true false v e = same true SureZero v refl e
    at true false true v e = same true SureOne v refl e
    at true false false v e = cc

-- nobody sent anything
pub nobody : (third : Bool) (a : ℕ) → value_of third no_votes a ≡ None
unfolding value_of no_votes
nobody third a = let e = bit_at-zero a in (λ j. value_at third (eqb (e j) 1) (eqb (e j) 1))

-- with the bits more of a value that fits and of a member that had sent none
bits_more : (third : Bool) (v : Value) (t z o : Bool) → fits third v ≡ true → (t ≡ true → value_at third z o ≡ None)
    → value_at third ((of_zero v && t) || z) ((of_one v && t) || o) ≡ keep_or (value_at third z o) (given t v)
bits_more false Zero true true o f n = let e = n refl in cc
bits_more false Zero true false true f n = let e = n refl in cc
bits_more false Zero true false false f n = refl
bits_more false One true true o f n = let e = n refl in cc
bits_more false One true false true f n = let e = n refl in cc
bits_more false One true false false f n = refl
bits_more false SureZero t z o f n = absurd (false≢true f)
bits_more false SureOne t z o f n = absurd (false≢true f)
bits_more false Unsure t z o f n = absurd (false≢true f)
bits_more true Zero t z o f n = absurd (false≢true f)
bits_more true One t z o f n = absurd (false≢true f)
bits_more true SureZero true true true f n = let e = n refl in cc
bits_more true SureZero true true false f n = let e = n refl in cc
bits_more true SureZero true false true f n = let e = n refl in cc
bits_more true SureZero true false false f n = refl
bits_more true SureOne true true true f n = let e = n refl in cc
bits_more true SureOne true true false f n = let e = n refl in cc
bits_more true SureOne true false true f n = let e = n refl in cc
bits_more true SureOne true false false f n = refl
bits_more true Unsure true true true f n = let e = n refl in cc
bits_more true Unsure true true false f n = let e = n refl in cc
bits_more true Unsure true false true f n = let e = n refl in cc
bits_more true Unsure true false false f n = refl
bits_more false Zero false z o f n = sym (keep_None (value_at false z o))
bits_more false One false z o f n = sym (keep_None (value_at false z o))
bits_more true SureZero false z o f n = sym (keep_None (value_at true z o))
bits_more true SureOne false z o f n = sym (keep_None (value_at true z o))
bits_more true Unsure false z o f n = sym (keep_None (value_at true z o))

-- the member that had sent none has sent this one, and every other what it had sent
pub voted : (third : Bool) (votes : Votes) (a b : ℕ) (v : Value) → a < 64 → fits third v ≡ true → value_of third votes a ≡ None
    → value_of third (with_vote votes a v) b ≡ keep_or (value_of third votes b) (given (eqb a b) v)
unfolding value_of with_vote
voted third votes a b v l f n = at v ∙ bits_more third v (eqb a b) (has_bit votes.zero b) (has_bit votes.one b) f none
  where
    none : eqb a b ≡ true → value_of third votes b ≡ None
    none t = ap (λ i. value_of third votes i) (sym (eqb-true a b t)) ∙ n

    more : (mask : ℕ) → has_bit (with_bit mask a) b ≡ (eqb a b || has_bit mask b)
    more mask = bit_more mask a b l

    at : (v : Value) → value_of third (with_vote votes a v) b ≡ value_at third ((of_zero v && eqb a b) || has_bit votes.zero b) ((of_one v && eqb a b) || has_bit votes.one b)
    at Zero = ap (λ z. value_at third z (has_bit votes.one b)) (more votes.zero)
    at One = ap (λ o. value_at third (has_bit votes.zero b) o) (more votes.one)
    at SureZero = ap (λ z. value_at third z (has_bit votes.one b)) (more votes.zero)
    at SureOne = ap (λ o. value_at third (has_bit votes.zero b) o) (more votes.one)
    at Unsure = λ i. value_at third (more votes.zero i) (more votes.one i)

-- the masks after a vote are those with its bits
module _ (votes : Votes) (a bit : ℕ) (same : bit ≡ a) (v : Value) where
  pub zero_more : (v ≡ Zero) ⊎ (v ≡ SureZero) → record votes { zero = with_bit votes.zero bit } ≡ with_vote votes a v
  unfolding with_vote
  zero_more (inl e) = λ i. with_vote votes (same i) (sym e i)
  zero_more (inr e) = λ i. with_vote votes (same i) (sym e i)

  pub one_more : (v ≡ One) ⊎ (v ≡ SureOne) → record votes { one = with_bit votes.one bit } ≡ with_vote votes a v
  unfolding with_vote
  one_more (inl e) = λ i. with_vote votes (same i) (sym e i)
  one_more (inr e) = λ i. with_vote votes (same i) (sym e i)

  pub unsure_more : v ≡ Unsure → record { zero = with_bit votes.zero bit; one = with_bit votes.one bit } ≡ with_vote votes a v
  unfolding with_vote
  unsure_more e = λ i. with_vote votes (same i) (sym e i)

-- two bits by their numbers, and what they stand for
one_alone : (third : Bool) (z o : ℕ) → z < 2 → o < 2 → eqb ((max z o + z) % 2) 1 ≡ value_is (value_at third (eqb z 1) (eqb o 1)) (one_value third)
one_alone false zero zero k l = refl
one_alone false zero (suc zero) k l = refl
one_alone false (suc zero) zero k l = refl
one_alone false (suc zero) (suc zero) k l = refl
one_alone true zero zero k l = refl
one_alone true zero (suc zero) k l = refl
one_alone true (suc zero) zero k l = refl
one_alone true (suc zero) (suc zero) k l = refl
one_alone t (suc (suc z)) o k l = absurd (omega (arith, k))
one_alone t zero (suc (suc o)) k l = absurd (omega (arith, l))
one_alone t (suc zero) (suc (suc o)) k l = absurd (omega (arith, l))

sure_zero_alone : (z o : ℕ) → z < 2 → o < 2 → eqb ((max z o + o) % 2) 1 ≡ value_is (value_at true (eqb z 1) (eqb o 1)) SureZero
sure_zero_alone zero zero k l = refl
sure_zero_alone zero (suc zero) k l = refl
sure_zero_alone (suc zero) zero k l = refl
sure_zero_alone (suc zero) (suc zero) k l = refl
sure_zero_alone (suc (suc z)) o k l = absurd (omega (arith, k))
sure_zero_alone zero (suc (suc o)) k l = absurd (omega (arith, l))
sure_zero_alone (suc zero) (suc (suc o)) k l = absurd (omega (arith, l))

both_alone : (z o : ℕ) → z < 2 → o < 2 → eqb (min z o) 1 ≡ value_is (value_at true (eqb z 1) (eqb o 1)) Unsure
both_alone zero zero k l = refl
both_alone zero (suc zero) k l = refl
both_alone (suc zero) zero k l = refl
both_alone (suc zero) (suc zero) k l = refl
both_alone (suc (suc z)) o k l = absurd (omega (arith, k))
both_alone zero (suc (suc o)) k l = absurd (omega (arith, l))
both_alone (suc zero) (suc (suc o)) k l = absurd (omega (arith, l))

zero_alone : (z o : Bool) → z ≡ value_is (value_at false z o) Zero
zero_alone true o = refl
zero_alone false true = refl
zero_alone false false = refl

-- those who sent a value
module _ (votes : Votes) (a : ℕ) where
  pub zero_sent : has_bit votes.zero a ≡ value_is (value_of false votes a) Zero
  unfolding value_of
  zero_sent = zero_alone (has_bit votes.zero a) (has_bit votes.one a)

  pub sure_zero_sent : has_bit (bit_xor (bit_or votes.zero votes.one) votes.one) a ≡ value_is (value_of true votes a) SureZero
  unfolding value_of
  sure_zero_sent = ap (λ b. eqb b 1) (bit_at_xor (bit_or votes.zero votes.one) votes.one a ∙ ap (λ b. (b + bit_at votes.one a) % 2) (bit_at_or votes.zero votes.one a))
      ∙ sure_zero_alone (bit_at votes.zero a) (bit_at votes.one a) (bit_at-lt votes.zero a) (bit_at-lt votes.one a)

  pub one_sent : (third : Bool) → has_bit (bit_xor (bit_or votes.zero votes.one) votes.zero) a ≡ value_is (value_of third votes a) (one_value third)
  unfolding value_of
  one_sent third = ap (λ b. eqb b 1) (bit_at_xor (bit_or votes.zero votes.one) votes.zero a ∙ ap (λ b. (b + bit_at votes.zero a) % 2) (bit_at_or votes.zero votes.one a))
      ∙ one_alone third (bit_at votes.zero a) (bit_at votes.one a) (bit_at-lt votes.zero a) (bit_at-lt votes.one a)

  pub unsure_sent : has_bit (bit_and votes.zero votes.one) a ≡ value_is (value_of true votes a) Unsure
  unfolding value_of
  unsure_sent = ap (λ b. eqb b 1) (bit_at_and votes.zero votes.one a)
      ∙ both_alone (bit_at votes.zero a) (bit_at votes.one a) (bit_at-lt votes.zero a) (bit_at-lt votes.one a)

-- a value that doesn't fit is nobody's
unfit : (third z o : Bool) (m : Value) → fits third m ≡ false → false ≡ value_is (value_at third z o) m
unfit false true o SureZero f = refl
unfit false false true SureZero f = refl
unfit false false false SureZero f = refl
unfit false true o SureOne f = refl
unfit false false true SureOne f = refl
unfit false false false SureOne f = refl
unfit false true o Unsure f = refl
unfit false false true Unsure f = refl
unfit false false false Unsure f = refl
unfit false z o Zero f = absurd (true≢false f)
unfit false z o One f = absurd (true≢false f)
unfit true true true Zero f = refl
unfit true true false Zero f = refl
unfit true false true Zero f = refl
unfit true false false Zero f = refl
unfit true true true One f = refl
unfit true true false One f = refl
unfit true false true One f = refl
unfit true false false One f = refl
unfit true z o SureZero f = absurd (true≢false f)
unfit true z o SureOne f = absurd (true≢false f)
unfit true z o Unsure f = absurd (true≢false f)

-- and its mask is empty
pub unfit_sent : (third : Bool) (votes : Votes) (m : Value) (a : ℕ) → fits third m ≡ false → has_bit 0 a ≡ value_is (value_of third votes a) m
unfolding value_of
unfit_sent third votes m a f = ap (λ b. eqb b 1) (bit_at-zero a) ∙ unfit third (has_bit votes.zero a) (has_bit votes.one a) m f

-- who sent Zero in another step than the third, or SureZero in the third
pub zero_fits : (third : Bool) → fits third Zero ≡ true → false ≡ third
zero_fits false f = refl
zero_fits true f = absurd (false≢true f)

pub sure_fits : (third : Bool) → fits third SureZero ≡ true → true ≡ third
sure_fits true f = refl
sure_fits false f = absurd (false≢true f)

pub one_fits : (third : Bool) (v : Value) → fits third v ≡ true → (v ≡ One) ⊎ (v ≡ SureOne) → one_value third ≡ v
one_fits false v f (inl e) = sym e
one_fits false v f (inr e) = absurd (false≢true (sym (ap (λ x. fits false x) e) ∙ f))
one_fits true v f (inl e) = absurd (false≢true (sym (ap (λ x. fits true x) e) ∙ f))
one_fits true v f (inr e) = sym e

-- Unsure is of step 3
pub third_fits : (third : Bool) (v : Value) → fits third v ≡ true → v ≡ Unsure → true ≡ third
third_fits false v f e = absurd (false≢true (sym (ap (λ x. fits false x) e) ∙ f))
third_fits true v f e = refl

-- how many of the members below n have a mask that is that of a value
pub sent_count : (third : Bool) (votes : Votes) (m : Value) (mask n : ℕ) → ((a : ℕ) → has_bit mask a ≡ value_is (value_of third votes a) m)
    → count_ones (bit_and mask (2 ^ n - 1)) ≡ count_below n (λ a. value_is (value_of third votes a) m)
sent_count third votes m mask n same =
    ones_among mask n ∙ count-ext n (has_bit mask) (λ a. value_is (value_of third votes a) m) (λ a l. same a)
