-- One call more.
use Rattle.std.proofs.Common.{◌≡◌, ◌⊎◌, inl, inr, ⊎_elim, ℕ, ◌+◌, ◌≤◌, true, false, List, [], ◌∷◌, ◌++◌, length, drop, Result, Ok, Err, OnOk, refl, sym, ◌∙◌, subst, arith, length-append, drop_at}
use Rattle.std.proofs.lemmas.Bool.{cases_lt}
use Rattle.std.proofs.lemmas.List.{drop-append-le}
use Rattle.disk.specs.Model.{State, MayLeave, Elapses}
use Rattle.disk.specs.declared.device.Disk.{Ghosts as DiskGhosts}
use Rattle.journal.specs.Passing.{OneLeaves, last_of, PassesThrough}

one_or_last : (states : List State) (s : State) (file : List ℕ) → OneLeaves (states ++ s ∷ []) file → OneLeaves states file ⊎ MayLeave s file
one_or_last [] s file (inl may) = inr may
one_or_last [] s file (inr more) = elim more [ ]
one_or_last (t ∷ states) s file (inl may) = inl (inl may)
one_or_last (t ∷ states) s file (inr more) = ⊎_elim (λ one. inl (inr one)) (λ last. inr last) (one_or_last states s file more)

one_before : (states : List State) (s : State) (file : List ℕ) → OneLeaves states file → OneLeaves (states ++ s ∷ []) file
one_before [] s file one = elim one [ ]
one_before (t ∷ states) s file (inl may) = inl may
one_before (t ∷ states) s file (inr more) = inr (one_before states s file more)

one_at_last : (states : List State) (s : State) (file : List ℕ) → MayLeave s file → OneLeaves (states ++ s ∷ []) file
one_at_last [] s file may = inl may
one_at_last (t ∷ states) s file may = inr (one_at_last states s file may)

last_push : (first : State) (states : List State) (s : State) → last_of first (states ++ s ∷ []) ≡ s
last_push first [] s = refl
last_push first (t ∷ states) s = last_push t states s

-- a call that passed is one moment more
one_more : {T E : Type 0} {before now : ℕ} {past since : ℕ → List ℕ → Type 0} {old new : State} (x : T) → Elapses {T = T} {E = E} before now past since old new (Ok x) → now ≡ before + 1
one_more x time = ⊎_elim (λ one. one) (λ none. let no : false ≡ true = none.2 in cc) time.counted

-- what stands from the k-th of these states on, and one more
from_kth : (all : List State) (s : State) (k : ℕ) (file : List ℕ) → k ≤ length all → OneLeaves (drop k all) file ⊎ MayLeave s file → OneLeaves (drop k (all ++ s ∷ [])) file
from_kth all s k file le some =
    subst (λ (l : List State). OneLeaves l file) (sym (drop-append-le k all (s ∷ []) le))
    (⊎_elim (one_before (drop k all) s file) (one_at_last (drop k all) s file) some)

to_kth : (all : List State) (s : State) (k : ℕ) (file : List ℕ) → k ≤ length all → OneLeaves (drop k (all ++ s ∷ [])) file → OneLeaves (drop k all) file ⊎ MayLeave s file
to_kth all s k file le one =
    one_or_last (drop k all) s file (subst (λ (l : List State). OneLeaves l file) (drop-append-le k all (s ∷ []) le) one)

module _ {D : Type 0} (disk : DiskGhosts D) (counts_now : (d : D) (t : ℕ) (file : List ℕ) → disk.keeps d → t ≤ disk.moment d → MayLeave (disk.state d) file → disk.since d t file) (only_now : (d : D) (file : List ℕ) → disk.keeps d → disk.since d (disk.moment d) file → MayLeave (disk.state d) file) where
  -- before the first call
  pub none_passed : (old : D) → disk.keeps old → PassesThrough disk old [] old
  none_passed old keeps = record {
    calls = omega arith;
    last = refl;
    only = λ k file le left.
        let here : disk.moment old + k ≡ disk.moment old = omega (arith, le) in
        let none : k ≡ 0 = omega (arith, le) in
        subst (λ (j : ℕ). OneLeaves (drop j (disk.state old ∷ [])) file) (sym none) (inl (only_now old file keeps (subst (λ (t : ℕ). disk.since old t file) here left)));
    each = λ k file le one.
        let none : k ≡ 0 = omega (arith, le) in
        ⊎_elim (counts_now old (disk.moment old + k) file keeps (omega (arith, none))) (λ no. absurd no) (subst (λ (j : ℕ). OneLeaves (drop j (disk.state old ∷ [])) file) none one);
  }

  -- and one that passed
  pub one_passed : {T E : Type 0} (old mid new : D) (states : List State) (x : T) → PassesThrough disk old states mid → Elapses {T = T} {E = E} (disk.moment mid) (disk.moment new) (disk.since mid) (disk.since new) (disk.state mid) (disk.state new) (Ok x) → disk.keeps new → (s : State) → disk.state new ≡ s
      → PassesThrough disk old (states ++ s ∷ []) new
  one_passed old mid new states x so_far time keeps s is =
      let all : List State = disk.state old ∷ states in
      let more : disk.moment new ≡ disk.moment mid + 1 = one_more x time in
      let long : length (states ++ s ∷ []) ≡ length states + 1 = length-append states (s ∷ []) in
      let now : (file : List ℕ) → MayLeave (disk.state new) file → MayLeave s file = λ file may. subst (λ (t : State). MayLeave t file) is may in
      let was : (file : List ℕ) → MayLeave s file → MayLeave (disk.state new) file = λ file may. subst (λ (t : State). MayLeave t file) (sym is) may in
      record {
        calls = omega (arith, more, long, so_far.calls);
        last = is ∙ sym (last_push (disk.state old) states s);
        only = λ k file le left. ⊎_elim
            (λ before.
            let earlier : k ≤ length states = omega (arith, before) in
            from_kth all s k file (omega (arith, earlier))
            (⊎_elim (λ past. inl (so_far.only k file earlier past)) (λ may. inr (now file may)) (time.nothing_else (disk.moment old + k) file (omega (arith, earlier, so_far.calls)) left)))
            (λ behind.
            let last : k ≡ length states + 1 = omega (arith, behind, le, long) in
            let here : disk.moment old + k ≡ disk.moment new = omega (arith, last, more, so_far.calls) in
            subst (λ (l : List State). OneLeaves l file) (sym (drop_at all (s ∷ []) k (omega (arith, last))))
            (inl (now file (only_now new file keeps (subst (λ (t : ℕ). disk.since new t file) here left)))))
            (cases_lt k (length states + 1));
        each = λ k file le one. ⊎_elim
            (λ before.
            let earlier : k ≤ length states = omega (arith, before) in
            let at : disk.moment old + k ≤ disk.moment mid = omega (arith, earlier, so_far.calls) in
            ⊎_elim (λ past. time.keeps (disk.moment old + k) file at (so_far.each k file earlier past))
            (λ may. counts_now new (disk.moment old + k) file keeps (omega (arith, at, more)) (was file may))
            (to_kth all s k file (omega (arith, earlier)) one))
            (λ behind.
            let last : k ≡ length states + 1 = omega (arith, behind, le, long) in
            ⊎_elim (λ may. counts_now new (disk.moment old + k) file keeps (omega (arith, last, more, so_far.calls)) (was file may)) (λ no. absurd no)
            (subst (λ (l : List State). OneLeaves l file) (drop_at all (s ∷ []) k (omega (arith, last))) one))
            (cases_lt k (length states + 1));
      }

  -- and the last one, if it passed
  pub last_passed : {T E : Type 0} (old mid new : D) (states : List State) (result : Result T E) → PassesThrough disk old states mid → Elapses {T = T} {E = E} (disk.moment mid) (disk.moment new) (disk.since mid) (disk.since new) (disk.state mid) (disk.state new) result → disk.keeps new → (s : State) → OnOk result (disk.state new ≡ s)
      → OnOk result (PassesThrough disk old (states ++ s ∷ []) new)
  last_passed old mid new states (Ok x) so_far time keeps s is = one_passed old mid new states x so_far time keeps s is
  last_passed old mid new states (Err e) so_far time keeps s is = tt
