-- How many events there are, and events in turn.
use Rattle.std.proofs.Common.{ℕ, zero, suc, ◌≡◌, ◌+◌, ◌*◌, ◌-◌, ◌<◌, ◌≤◌, refl, sym, ap, ◌∙◌, subst, arith, List, [], ◌∷◌, ◌++◌, length, drop, length-append, get_or, add-one, ◌^◌, min}
use Rattle.sim.specs.declared.TheConstants.{MOST_EVENTS}
use Rattle.std.proofs.Math.Seq.{drop-cons}
use Rattle.sim.specs.declared.events.Which.TheVariants.{Next}
use Rattle.script.specs.Words.{Deliver, Act, Cast, Network, Made, add, add_drawn, add_fair, adds, draws, fairs, row, round, times}
use Rattle.std.specs.List.{flat_map}
use Rattle.terms_prelude.specs.Terms.{Size}

pub length-add : (act : Act) (made : Made) → length (add act made).events ≡ length made.events + 1
unfolding add
length-add act made = length-append made.events _

pub length-add_drawn : (size : Size) (made : Made) → length (add_drawn size made).events ≡ length made.events + 1
unfolding add_drawn add
length-add_drawn size made = length-append made.events _

-- events in turn, in two parts
pub adds-append : (xs ys : List Act) (made : Made) → adds (xs ++ ys) made ≡ adds ys (adds xs made)
adds-append [] ys made = refl
adds-append (x ∷ xs) ys made = adds-append xs ys (add x made)

pub length-adds : (acts : List Act) (made : Made) → length (adds acts made).events ≡ length made.events + length acts
length-adds [] made = omega arith
length-adds (act ∷ acts) made =
    let r = length-adds acts (add act made) in
    let a = length-add act made in
    omega arith

pub length-draws : (size : Size) (k : ℕ) (made : Made) → length (draws size k made).events ≡ length made.events + k
length-draws size zero made = omega arith
length-draws size (suc k) made =
    let r = length-draws size k (add_drawn size made) in
    let a = length-add_drawn size made in
    omega arith

pub length-row : (from : ℕ) (members : List ℕ) → length (row from members) ≡ length members
length-row from [] = refl
length-row from (to ∷ members) = ap suc (length-row from members)

-- the rows of some senders
pub length-rows : (froms members : List ℕ) → length (flat_map (λ from. row from members) froms) ≡ length froms * length members
length-rows [] members = omega arith
length-rows (from ∷ froms) members =
    let r = length-rows froms members in
    let l = length-append (row from members) (flat_map (λ from. row from members) froms) in
    let w = length-row from members in
    omega arith

pub length-times : (k : ℕ) (acts : List Act) → length (times k acts) ≡ k * length acts
length-times zero acts = omega arith
length-times (suc k) acts =
    let r = length-times k acts in
    let l = length-append acts (times k acts) in
    omega arith

-- what is left of a list at an index is the item there, and what is left behind it
pub next_of : {A : Type 0} (xs : List A) (i : ℕ) (d : A) → i < length xs → drop i xs ≡ get_or xs i d ∷ drop (i + 1) xs
next_of xs i d h = rw add-one (drop-cons xs i d h)

-- one delivery of a row
pub row_next : (from : ℕ) (members : List ℕ) (i : ℕ) (made : Made) → i < length members
    → adds (row from (drop i members)) made ≡ adds (row from (drop (i + 1) members)) (add (Deliver from (get_or members i 0) Next) made)
row_next from members i made h = ap (λ (ms : List ℕ). adds (row from ms) made) (next_of members i 0 h)

-- one row of a round
pub round-next : (members : List ℕ) (i : ℕ) (made : Made) → i < length members
    → adds (flat_map (λ from. row from members) (drop i members)) made
    ≡ adds (flat_map (λ from. row from members) (drop (i + 1) members)) (adds (row (get_or members i 0) members) made)
round-next members i made h =
    ap (λ (froms : List ℕ). adds (flat_map (λ from. row from members) froms) made) (next_of members i 0 h)
    ∙ adds-append (row (get_or members i 0) members) (flat_map (λ from. row from members) (drop (i + 1) members)) made

-- one time less
pub less-one : (n i : ℕ) → i < n → n - i ≡ suc (n - (i + 1))
less-one n i h = omega arith

-- one drawn event of many
pub draws-next : (size : Size) (n i : ℕ) (made : Made) → i < n
    → draws size (n - i) made ≡ draws size (n - (i + 1)) (add_drawn size made)
draws-next size n i made h = ap (λ k. draws size k made) (less-one n i h)

pub length-add_fair : (cast : Cast) (left : ℕ) (network : Network) (made : Made)
    → length ((add_fair cast left network made).1).events ≡ length made.events + 1
unfolding add_fair add
length-add_fair cast left network made = length-append made.events _

pub length-fairs : (cast : Cast) (k : ℕ) (network : Network) (made : Made) → length (fairs cast k network made).events ≡ length made.events + k
length-fairs cast zero network made = omega arith
length-fairs cast (suc k) network made =
    let next : Network × Made = add_fair cast (suc k) network made in
    let r = length-fairs cast k next.0 next.1 in
    let a = length-add_fair cast (suc k) network made in
    omega arith

-- one event of a fair network of many
pub fairs-next : (cast : Cast) (n i : ℕ) (network : Network) (made : Made) → i < n
    → fairs cast (n - i) network made
    ≡ fairs cast (n - (i + 1)) (add_fair cast (n - i) network made).0 (add_fair cast (n - i) network made).1
fairs-next cast n i network made h =
    subst
    (λ (k : ℕ). fairs cast k network made ≡ fairs cast (n - (i + 1)) (add_fair cast k network made).0 (add_fair cast k network made).1)
    (sym (less-one n i h)) refl

-- one round, and those behind it
pub round_first : (k : ℕ) (acts : List Act) (made : Made) → 0 < k → adds (times (k - 1) acts) (adds acts made) ≡ adds (times k acts) made
round_first zero acts made h = absurd (omega (arith, h))
round_first (suc k) acts made h =
    let e : suc k - 1 ≡ k = omega arith in
    rw e (sym (adds-append acts (times k acts) made))

-- some drawn events, and those behind them
pub draws_split : (size : Size) (k n : ℕ) (made : Made) → n ≤ k → draws size (k - n) (draws size n made) ≡ draws size k made
draws_split size k zero made h = let e : k - 0 ≡ k = omega arith in rw e refl
draws_split size zero (suc n) made h = absurd (omega (arith, h))
draws_split size (suc k) (suc n) made h =
    let e : suc k - suc n ≡ k - n = omega arith in
    rw e (draws_split size k n (add_drawn size made) (omega (arith, h)))

-- rounds of no members
pub times-none : (k : ℕ) (made : Made) → adds (times k (round [])) made ≡ made
times-none zero made = refl
times-none (suc k) made = times-none k made

-- how many events there are behind rounds
pub length-rounds : (k : ℕ) (members : List ℕ) (made : Made)
    → length (adds (times k (round members)) made).events ≡ length made.events + k * (length members * length members)
length-rounds k members made =
    length-adds (times k (round members)) made
    ∙ ap (λ x. length made.events + x) (length-times k (round members) ∙ ap (λ x. k * x) (length-rows members members))

pub count_one : (act : Act) (made : Made) → length (add act made).events ≡ length made.events + 1
count_one act made = length-add act made

-- where it is no more than there may be, it wasn't cut
pub uncut : (have k l links sat : ℕ) → links ≡ min l (2 ^ 64 - 1) → sat ≡ min (k * links) (2 ^ 64 - 1)
    → have + sat ≤ MOST_EVENTS → sat ≡ k * l
uncut have zero l links sat e f h = omega arith
uncut have (suc k) l links sat e f h =
    let whole : links ≡ l = omega arith in
    subst (λ x. sat ≡ suc k * x) whole (omega arith)

-- rounds of members of whom there are none
pub no_rounds : (k : ℕ) (members : List ℕ) (made : Made) → length members ≡ 0 → adds (times k (round members)) made ≡ made
no_rounds k [] made h = times-none k made
no_rounds k (m ∷ members) made h = absurd (omega arith)
