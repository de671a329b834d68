-- The greatest slot to which more than t members have come.
use Rattle.std.proofs.Common.{ℕ, zero, suc, ◌≡◌, ◌+◌, ◌-◌, ◌*◌, ◌<◌, ◌≤◌, ◌∙◌, Bool, true, false, cond, refl, sym, ap, subst, arith, OnErr, OnOk, Result, Ok, Err, List, [], ◌∷◌, ◌++◌, nat_le, length, get_or, take, if◌then◌else◌}
use Rattle.std.proofs.lemmas.Bool.Decides.{nat_tests}
use Rattle.std.proofs.lemmas.List.{take_more}
use Rattle.std.proofs.lemmas.List.Sums.{sum_by-cons}
use Rattle.std.specs.List.{AllByRecursion}
use Rattle.gateway.specs.Heads.{IsCommonHead, count_at, next_first}
use Rattle.gateway.specs.Watches.{watch_first}
use Rattle.gateway.specs.declared.watch.Watch.{Watch}

-- the first member has come to the slot, or hasn't
count_cons : (head : ℕ) (heads : List ℕ) (slot : ℕ) → count_at (head ∷ heads) slot ≡ cond (nat_le slot head) 1 0 + count_at heads slot
count_cons head heads slot = sum_by-cons (λ (h : ℕ). cond (nat_le slot h) 1 0) head heads

has_come : (head : ℕ) (heads : List ℕ) (slot : ℕ) → nat_le slot head ≡ true → count_at (head ∷ heads) slot ≡ 1 + count_at heads slot
has_come head heads slot e = subst (λ (b : Bool). count_at (head ∷ heads) slot ≡ cond b 1 0 + count_at heads slot) e (count_cons head heads slot)

has_not_come : (head : ℕ) (heads : List ℕ) (slot : ℕ) → nat_le slot head ≡ false → count_at (head ∷ heads) slot ≡ count_at heads slot
has_not_come head heads slot e =
    let is : count_at (head ∷ heads) slot ≡ 0 + count_at heads slot =
    subst (λ (b : Bool). count_at (head ∷ heads) slot ≡ cond b 1 0 + count_at heads slot) e (count_cons head heads slot) in
    omega (arith, is)

no_fewer : (head : ℕ) (heads : List ℕ) (slot : ℕ) → count_at heads slot ≤ count_at (head ∷ heads) slot
no_fewer head heads slot = let is = count_cons head heads slot in omega (arith, is)

come_later : (head a b : ℕ) → a ≤ b → cond (nat_le b head) 1 0 ≤ cond (nat_le a head) 1 0
come_later head a b later = step (nat_le b head) refl (nat_le a head) refl
  where
    step : (p : Bool) → nat_le b head ≡ p → (q : Bool) → nat_le a head ≡ q → cond p 1 0 ≤ cond q 1 0
    step true e true f = omega arith
    step true e false f = absurd (let no : nat_le a head ≡ true = grind (arith, nat_tests, e, later) in cc)
    step false e true f = omega arith
    step false e false f = omega arith

-- fewer members have come to a later slot
pub fewer_later : (heads : List ℕ) (a b : ℕ) → a ≤ b → count_at heads b ≤ count_at heads a
fewer_later [] a b later = omega arith
fewer_later (head ∷ heads) a b later =
    let rest = fewer_later heads a b later in
    let one = come_later head a b later in
    let before = count_cons head heads a in
    let after = count_cons head heads b in
    omega (arith, rest, one, before, after)

-- a member that has come to the slot, at a slot to which no fewer have come
record Witness (P : ℕ → Type 0) (heads : List ℕ) (slot : ℕ) : Type 0 where
  pub head : ℕ
  pub is : P head
  pub there : slot ≤ head
  pub many : count_at heads slot ≤ count_at heads head

-- where the first hasn't come to the slot, it is one of the others
of_others : (P : ℕ → Type 0) (head : ℕ) (heads : List ℕ) (slot : ℕ) → nat_le slot head ≡ false → Witness P heads slot → Witness P (head ∷ heads) slot
of_others P head heads slot e w = record {
  head = w.head;
  is = w.is;
  there = w.there;
  many =
      let many = w.many in
      let same = has_not_come head heads slot e in
      let more = no_fewer head heads w.head in
      omega (arith, many, same, more);
}

-- where it alone has, or the others have come no less far, it is the first
of_first : (P : ℕ → Type 0) (head : ℕ) (heads : List ℕ) (slot : ℕ) → nat_le slot head ≡ true → P head → count_at heads slot ≤ count_at heads head
    → Witness P (head ∷ heads) slot
of_first P head heads slot e is many = record {
  head = head;
  is = is;
  there = grind (arith, nat_tests, e);
  many =
      let itself : nat_le head head ≡ true = grind (arith, nat_tests) in
      let one = has_come head heads slot e in
      let other = has_come head heads head itself in
      omega (arith, many, one, other);
}

-- where the first has and others too, it is the lower one
of_both : (P : ℕ → Type 0) (head : ℕ) (heads : List ℕ) (slot : ℕ) → nat_le slot head ≡ true → P head → (w : Witness P heads slot)
    → (b : Bool) → nat_le w.head head ≡ b → Witness P (head ∷ heads) slot
of_both P head heads slot e is w true f = record {
  head = w.head;
  is = w.is;
  there = w.there;
  many =
      let many = w.many in
      let one = has_come head heads slot e in
      let other = has_come head heads w.head f in
      omega (arith, many, one, other);
}
of_both P head heads slot e is w false f =
    let below : head ≤ w.head = grind (arith, nat_tests, f) in
    let many = w.many in
    let more = fewer_later heads head w.head below in
    of_first P head heads slot e is (omega (arith, many, more))

-- where some have come to the slot, there is one
witness : (P : ℕ → Type 0) (heads : List ℕ) (slot : ℕ) → AllByRecursion P heads → 0 < count_at heads slot → Witness P heads slot
witness P [] slot all some = absurd (omega (arith, some))
witness P (head ∷ heads) slot all some = step (witness P heads slot all.1) (nat_le slot head) refl
  where
    by_count : (0 < count_at heads slot → Witness P heads slot) → nat_le slot head ≡ true → (n : ℕ) → count_at heads slot ≡ n → Witness P (head ∷ heads) slot
    by_count call e zero none = of_first P head heads slot e all.0 (omega (arith, none))
    by_count call e (suc n) more = let w = call (omega (arith, more)) in of_both P head heads slot e all.0 w (nat_le w.head head) refl

    step : (0 < count_at heads slot → Witness P heads slot) → (b : Bool) → nat_le slot head ≡ b → Witness P (head ∷ heads) slot
    step call false e = let same = has_not_come head heads slot e in of_others P head heads slot e (call (omega (arith, some, same)))
    step call true e = by_count call e (count_at heads slot) refl

-- each of these slots, if more than t members have come to it, is no greater
abbrev pub IsReached : ℕ → List ℕ → ℕ → ℕ → Type 0
IsReached t heads most head = t < count_at heads head → head ≤ most

-- where that holds of all, no greater slot is one to which more than t have come
pub greatest_of : (t : ℕ) (heads : List ℕ) (most : ℕ) → AllByRecursion (IsReached t heads most) heads → (slot : ℕ) → t < count_at heads slot → slot ≤ most
greatest_of t heads most all slot many =
    let w = witness (IsReached t heads most) heads slot all (omega (arith, many)) in
    let there = w.there in
    let more = w.many in
    let is : w.head ≤ most = w.is (omega (arith, many, more)) in
    omega (arith, there, is)

-- the same of a greater bound
all_below : (t : ℕ) (heads : List ℕ) (a b : ℕ) → a ≤ b → (xs : List ℕ) → AllByRecursion (IsReached t heads a) xs → AllByRecursion (IsReached t heads b) xs
all_below t heads a b greater [] all = tt
all_below t heads a b greater (x ∷ xs) all =
    ((λ many. let is = all.0 many in omega (arith, is, greater)), all_below t heads a b greater xs all.1)

with_one : (P : ℕ → Type 0) (xs : List ℕ) (x : ℕ) → AllByRecursion P xs → P x → AllByRecursion P (xs ++ x ∷ [])
with_one P [] x all is = (is, tt)
with_one P (y ∷ xs) x all is = (all.0, with_one P xs x all.1 is)

-- one slot more
pub reached_more : (t : ℕ) (heads : List ℕ) (a b i : ℕ) (head : ℕ) → head ≡ get_or heads i 0 → i < length heads → a ≤ b → (t < count_at heads head → head ≤ b)
    → AllByRecursion (IsReached t heads a) (take i heads) → AllByRecursion (IsReached t heads b) (take (i + 1) heads)
reached_more t heads a b i head is within greater good all =
    let more : take (i + 1) heads ≡ take i heads ++ head ∷ [] =
    subst (λ (h : ℕ). take (i + 1) heads ≡ take i heads ++ h ∷ []) (sym is) (take_more heads i 0 within) in
    subst (λ (l : List ℕ). AllByRecursion (IsReached t heads b) l) (sym more)
    (with_one (IsReached t heads b) (take i heads) head (all_below t heads a b greater (take i heads) all) good)

-- the window begins at no slot to which not more than t members have come
pub held_by_many : (t : ℕ) (heads : List ℕ) (first quarter head : ℕ) → IsCommonHead t heads head → first < next_first first quarter head
    → t < count_at heads (next_first first quarter head)
held_by_many t heads first quarter head common later = step (nat_le (first + 3 * quarter) head) refl later
  where
    step : (b : Bool) → nat_le (first + 3 * quarter) head ≡ b → first < (if b then head - 2 * quarter else first)
        → t < count_at heads (if b then head - 2 * quarter else first)
    step true e l =
        let many = common.reached (omega (arith, l)) in
        let fewer = fewer_later heads (head - 2 * quarter) head (omega arith) in
        omega (arith, many, fewer)
    step false e l = absurd (omega (arith, l))

-- so it is after a call that moves it or leaves all as it was
pub held_after : {A E : Type 0} (r : Result A E) (t : ℕ) (heads : List ℕ) (old new : Watch) (quarter head next : ℕ)
    → OnOk r (watch_first new ≡ next) → OnErr r (new ≡ old) → next ≡ next_first (watch_first old) quarter head → IsCommonHead t heads head
    → watch_first old < watch_first new → t < count_at heads (watch_first new)
held_after (Ok done) t heads old new quarter head next moves stays is common later =
    let new_is : watch_first new ≡ next_first (watch_first old) quarter head = moves ∙ is in
    subst (λ (first : ℕ). t < count_at heads first) (sym new_is)
    (held_by_many t heads (watch_first old) quarter head common (subst (λ (first : ℕ). watch_first old < first) new_is later))
held_after (Err e) t heads old new quarter head next moves stays is common later =
    let same : watch_first new ≡ watch_first old = ap watch_first stays in
    absurd (omega (arith, same, later))

-- there is one such slot
no_later : (t : ℕ) (heads : List ℕ) (a b : ℕ) → IsCommonHead t heads a → IsCommonHead t heads b → a ≤ b
no_later t heads zero b one other = omega arith
no_later t heads (suc a) b one other = other.greatest (suc a) (one.reached (omega arith))

pub one_head : (t : ℕ) (heads : List ℕ) (a b : ℕ) → IsCommonHead t heads a → IsCommonHead t heads b → a ≡ b
one_head t heads a b one other =
    let up = no_later t heads a b one other in
    let down = no_later t heads b a other one in
    omega (arith, up, down)

-- a call that is refused was to move the window
pub needed_after : {A E : Type 0} (r : Result A E) (t : ℕ) (heads : List ℕ) (first quarter head next : ℕ)
    → OnErr r (first < next) → next ≡ next_first first quarter head → IsCommonHead t heads head
    → OnErr r ((other : ℕ) → IsCommonHead t heads other → first < next_first first quarter other)
needed_after (Ok done) t heads first quarter head next needed is common = tt
needed_after (Err e) t heads first quarter head next needed is common = λ other also.
    subst (λ (h : ℕ). first < next_first first quarter h) (one_head t heads head other common also)
    (subst (λ (f : ℕ). first < f) is needed)
