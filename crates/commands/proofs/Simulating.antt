-- The pieces of what `simulate` prints.
use Rattle.std.proofs.Common.{ℕ, suc, ◌≡◌, ◌+◌, ◌<◌, ◌≤◌, sym, ap, ◌∙◌, subst, arith, append_assoc, append-nil, Bool, true, false, codes, List, [], ◌∷◌, ◌++◌, length, take, get_or, length-take}
use Rattle.std.specs.List.{flat_map}
use Rattle.std.specs.Fmt.{decimal}
use Rattle.std.proofs.Math.Seq.{take-suc}
use Rattle.std.proofs.lemmas.List.Concat.{flat_map-append}
use Rattle.sim.specs.declared.events.Mark.{Mark}
use Rattle.sim.specs.declared.events.Mark.TheVariants.{Done}
use Rattle.numerals.specs.Sentences.{bit_digit}
use Rattle.report.specs.Traces.{is_skipped}
use Rattle.commands.specs.Simulations.{skipped, verdict_line, line_of_counts}

pub verdict_pieces : (v : ℕ × ℕ × ℕ × Bool) (digit : ℕ) → digit ≡ bit_digit v.3
    → codes "member " ++ (decimal v.0 ++ (codes " question " ++ (decimal v.1 ++ (codes " round " ++ (decimal v.2
    ++ (codes " bit " ++ (decimal digit ++ codes "\n"))))))) ≡ verdict_line v
verdict_pieces v digit a = rw a (simp append_assoc)

pub count_pieces : (events skips : ℕ)
    → codes "events " ++ (decimal events ++ (codes " skipped " ++ (decimal skips ++ codes "\n"))) ≡ line_of_counts events skips
count_pieces events skips = simp append_assoc

-- the text of one thing more
pub one_more : {A : Type 0} (show : A → List ℕ) (xs : List A) (i : ℕ) (x : A) (text more new : List ℕ) → x ≡ get_or xs i x → i < length xs
    → text ≡ flat_map show (take i xs) → more ≡ show x → new ≡ text ++ more → new ≡ flat_map show (take (i + 1) xs)
one_more {A} show xs i x text more new at within before one is =
    let e : suc i ≡ i + 1 = omega arith in
    let step : take (i + 1) xs ≡ take i xs ++ x ∷ [] =
    subst (λ k. take k xs ≡ take i xs ++ x ∷ []) e (take-suc xs i x within ∙ ap (λ (y : A). take i xs ++ y ∷ []) (sym at)) in
    is ∙ rw (step, flat_map-append show (take i xs) (x ∷ []), before, one) (simp (append_assoc, append-nil))

-- of two lists of events
pub skipped-append : (xs ys : List Mark) → skipped (xs ++ ys) ≡ skipped xs + skipped ys
skipped-append [] ys = omega arith
skipped-append (x ∷ xs) ys = let h = skipped-append xs ys in omega (arith, h)

-- a bit is 1 at most
pub bit_small : (bit : Bool) → bit_digit bit ≤ 1
bit_small true = omega arith
bit_small false = omega arith

-- no more events were skipped than there are
pub few_skipped : (xs : List Mark) → skipped xs ≤ length xs
few_skipped [] = omega arith
few_skipped (x ∷ xs) = let h = few_skipped xs in let b = bit_small (is_skipped x) in omega (arith, h, b)

-- one event more
pub skipped_more : (xs : List Mark) (i count digit : ℕ) → i < length xs
    → digit ≡ bit_digit (is_skipped (get_or xs i Done)) → count ≡ skipped (take i xs) → count + digit ≡ skipped (take (i + 1) xs)
skipped_more xs i count digit within d before =
    let x : Mark = get_or xs i Done in
    let e : suc i ≡ i + 1 = omega arith in
    let step : take (i + 1) xs ≡ take i xs ++ x ∷ [] = subst (λ k. take k xs ≡ take i xs ++ x ∷ []) e (take-suc xs i Done within) in
    let all : skipped (take (i + 1) xs) ≡ skipped (take i xs) + skipped (x ∷ []) = ap skipped step ∙ skipped-append (take i xs) (x ∷ []) in
    omega (arith, all, d, before)

-- there is room for one more in the count
pub skipped_below : (xs : List Mark) (i count : ℕ) → i < length xs → count ≡ skipped (take i xs) → count ≤ i
skipped_below xs i count within before =
    let few = few_skipped (take i xs) in let long = length-take i xs in omega (arith, few, long, before)
