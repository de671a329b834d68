-- Tables of refusals: what a place that is written does to the whole.
use Rattle.std.proofs.Common.{rules, ℕ, zero, suc, ◌==◌, ◌&&◌, nat_lt, if◌then◌else◌, ◌≡◌, ◌≢◌, ◌+◌, ◌<◌, ◌≤◌, Bool, true, false, List, [], ◌∷◌, ◌++◌, length, Option, Some, None, replicate, set, append-nil, refl, sym, ap, ◌∙◌, subst, arith, ◌⊎◌, inl, inr}
use Rattle.std.proofs.lemmas.Bool.{cases_eq}
use Rattle.std.proofs.lemmas.List.{map-append, get_or-set_same, get_or-set_other, length-set}
use Rattle.std.specs.Option.{option_to_list}
use Rattle.std.proofs.lemmas.List.Sums.{sum_by-set, sum_by_push}
use Rattle.running.specs.declared.refusals.KeptRefusal.{KeptRefusal}
use Rattle.running.specs.declared.refusals.Refusal.{Refusal}
use Rattle.running.specs.declared.callers.Caller.{Caller}
use Rattle.running.specs.declared.events.LogEvent.{LogEvent}
use Rattle.running.specs.declared.events.LogEvent.TheVariants.{Refused}
use Rattle.running.specs.Queues.{Waiting, HaveCome}
use Rattle.running.proofs.Coming.{come_on}
use Rattle.running.specs.declared.refusals.RefusalCount.{RefusalCount}
use Rattle.running.specs.Refusals.{IsNoted, IsOldest, IsTable, KeepsAt, Lacks, Table, after_due, counted, counted_by, due_of, dues_below, events_of, held, held_at, is_due, left_of, place_at}

-- what is kept at a place is within
pub kept_within : (table : Table) (at : ℕ) (kept : KeptRefusal) → KeepsAt table at kept → at < length table
kept_within [] at kept is = let no : ⊥ = cc in absurd no
kept_within (place ∷ places) zero kept is = omega arith
kept_within (place ∷ places) (suc at) kept is = omega (arith, kept_within places at kept is)

-- a free table
none_in_replicate : (n at : ℕ) → place_at (replicate n None) at ≡ None
none_in_replicate zero at = refl
none_in_replicate (suc n) zero = refl
none_in_replicate (suc n) (suc at) = none_in_replicate n at

pub empty_is_table : IsTable (replicate 256 None)
empty_is_table = record {
  count = refl;
  apart = λ at other kept twin is was same. let no : ⊥ = let e : None ≡ Some kept = sym (none_in_replicate 256 at) ∙ is in cc in absurd no;
}

-- a place is written, with a refusal that no other place has
pub written_apart : (table : Table) (at : ℕ) (place : Option KeptRefusal) → IsTable table → at < length table
    → ((kept twin : KeptRefusal) (other : ℕ) → place ≡ Some kept → other ≢ at → KeepsAt table other twin → kept.refusal ≢ twin.refusal)
    → IsTable (set table at place)
written_apart table at place is within new = record {
  count = length-set table at place ∙ is.count;
  apart = λ one other kept twin here there same. by_case one other kept twin here there same (cases_eq one at) (cases_eq other at);
}
  where
    same_place : (kept : KeptRefusal) → KeepsAt (set table at place) at kept → place ≡ Some kept
    same_place kept is = sym (get_or-set_same table at place None within) ∙ is

    other_place : (other : ℕ) (twin : KeptRefusal) → other ≢ at → KeepsAt (set table at place) other twin → KeepsAt table other twin
    other_place other twin differs is = sym (get_or-set_other table at other place None differs) ∙ is

    by_case : (one other : ℕ) (kept twin : KeptRefusal) → KeepsAt (set table at place) one kept → KeepsAt (set table at place) other twin
        → kept.refusal ≡ twin.refusal → (one ≡ at) ⊎ (one ≢ at) → (other ≡ at) ⊎ (other ≢ at) → one ≡ other
    by_case one other kept twin here there same (inl e) (inl f) = e ∙ sym f
    by_case one other kept twin here there same (inl e) (inr f) =
        absurd (new kept twin other (same_place kept (subst (λ (k : ℕ). KeepsAt (set table at place) k kept) e here)) f (other_place other twin f there) same)
    by_case one other kept twin here there same (inr e) (inl f) =
        absurd (new twin kept one (same_place twin (subst (λ (k : ℕ). KeepsAt (set table at place) k twin) f there)) e (other_place one kept e here) (sym same))
    by_case one other kept twin here there same (inr e) (inr f) =
        is.apart one other kept twin (other_place one kept e here) (other_place other twin f there) same

-- the same refusal is written there
again_is_table : (table : Table) (at : ℕ) (was after : KeptRefusal) → IsTable table → at < 256 → KeepsAt table at was → after.refusal ≡ was.refusal
    → IsTable (set table at (Some after))
again_is_table table at was after is within kept same = written_apart table at (Some after) is (omega (arith, within, is.count))
    (λ one twin other this differs there equal.
    differs (sym (is.apart at other was twin kept there (sym same ∙ refusal_of after one this ∙ equal))))
  where
    refusal_of : (after one : KeptRefusal) → Some after ≡ Some one → after.refusal ≡ one.refusal
    refusal_of after one e = let same : after ≡ one = cc in ap (λ (kept : KeptRefusal). kept.refusal) same

-- how much is held then
pub held_written : (table : Table) (at : ℕ) (place : Option KeptRefusal) → at < length table
    → held (set table at place) + held_at (place_at table at) ≡ held table + held_at place
held_written table at place within = sum_by-set held_at table at place None within

-- what is left to tell is what is held
left_counts : (place : Option KeptRefusal) → counted (left_of place) ≡ held_at place
left_counts None = refl
left_counts (Some kept) = by_test (kept.held == 0) refl
  where
    by_test : (test : Bool) → (kept.held == 0) ≡ test
        → counted (if test then None else Some (record { refusal = kept.refusal; caller = kept.caller; count = kept.held })) ≡ kept.held
    by_test true is = search (rules, is)
    by_test false is = refl

-- A refusal that is kept comes again.
module _ (table : Table) (at : ℕ) (was : KeptRefusal) (now : ℕ) (caller : Option Caller) (after : KeptRefusal) (line : Option RefusalCount) (is : IsTable table)
    (within : at < 256) (kept : KeepsAt table at was)
    (soon : is_due now was ≡ false → (after ≡ record was { caller = caller; held = was.held + 1 }) × (line ≡ None))
    (due : is_due now was ≡ true → (after ≡ record was { caller = caller; held = 0; told = now })
    × (line ≡ Some (record { refusal = was.refusal; caller = caller; count = was.held + 1 }))) where
  by_due : (P : Type 0) → (is_due now was ≡ true → P) → (is_due now was ≡ false → P) → P
  by_due P if_due other = by_test (is_due now was) refl
    where
      by_test : (test : Bool) → is_due now was ≡ test → P
      by_test true is = if_due is
      by_test false is = other is

  same_refusal : after.refusal ≡ was.refusal
  same_refusal = by_due (after.refusal ≡ was.refusal) (λ is. ap (λ (kept : KeptRefusal). kept.refusal) (due is).0) (λ is. ap (λ (kept : KeptRefusal). kept.refusal) (soon is).0)

  pub stays_table : IsTable (set table at (Some after))
  stays_table = again_is_table table at was after is within kept same_refusal

  held_now : held (set table at (Some after)) + was.held ≡ held table + after.held
  held_now = sym (ap (λ (place : Option KeptRefusal). held (set table at (Some after)) + held_at place) kept)
      ∙ held_written table at (Some after) (omega (arith, within, is.count))

  counts_now : held (set table at (Some after)) + counted line ≡ held table + 1
  counts_now = by_due (held (set table at (Some after)) + counted line ≡ held table + 1)
      (λ is. let none : after.held ≡ 0 = ap (λ (kept : KeptRefusal). kept.held) (due is).0 in
      let all : counted line ≡ was.held + 1 = ap counted (due is).1 in omega (arith, held_now, none, all))
      (λ is. let more : after.held ≡ was.held + 1 = ap (λ (kept : KeptRefusal). kept.held) (soon is).0 in
      let none : counted line ≡ 0 = ap counted (soon is).1 in omega (arith, held_now, more, none))

  abbrev Soon : ℕ → KeptRefusal → Type 0
  Soon other twin = is_due now twin ≡ false
      → (◌≡◌ {A = Option RefusalCount} None None) × (line ≡ None) × (set table at (Some after) ≡ set table other (Some (record twin { caller = caller; held = twin.held + 1 })))

  abbrev Due : ℕ → KeptRefusal → Type 0
  Due other twin = is_due now twin ≡ true
      → (◌≡◌ {A = Option RefusalCount} None None) × (line ≡ Some (record { refusal = was.refusal; caller = caller; count = twin.held + 1 }))
      × (set table at (Some after) ≡ set table other (Some (record twin { caller = caller; held = 0; told = now })))

  -- what holds of this place and what it keeps, holds of any that keeps this refusal
  there : (P : ℕ → KeptRefusal → Type 0) → P at was → (other : ℕ) (twin : KeptRefusal) → KeepsAt table other twin → twin.refusal ≡ was.refusal → P other twin
  there P holds other twin is_there same =
      let place : at ≡ other = is.apart at other was twin kept is_there (sym same) in
      let equal : Some was ≡ Some twin = sym kept ∙ ap (place_at table) place ∙ is_there in
      let twin_is : was ≡ twin = cc in
      subst (λ (i : ℕ). P i twin) place (subst (λ (k : KeptRefusal). P at k) twin_is holds)

  pub noted_again : IsNoted now was.refusal caller table (set table at (Some after)) None line
  noted_again = record {
    first = λ lacks. absurd (lacks at was kept refl);
    oldest = λ lacks. absurd (lacks at was kept refl);
    soon = there Soon (λ is. (refl, (soon is).1, ap (λ (kept : KeptRefusal). set table at (Some kept)) (soon is).0));
    due = there Due (λ is. (refl, (due is).1, ap (λ (kept : KeptRefusal). set table at (Some kept)) (due is).0));
    counts = omega (arith, counts_now);
  }

-- A refusal that isn't kept takes a place.
module _ (table : Table) (at now : ℕ) (refusal : Refusal) (caller : Option Caller) (is : IsTable table) (within : at < 256) where
  abbrev taken : KeptRefusal
  taken = record { refusal = refusal; caller = caller; held = 0; told = now }

  pub first_is_table : Lacks table refusal → IsTable (set table at (Some taken))
  first_is_table lacks = written_apart table at (Some taken) is (omega (arith, within, is.count))
      (λ one twin other this differs there equal.
      lacks other twin there (sym (let same : taken ≡ one = cc in ap (λ (k : KeptRefusal). k.refusal) same ∙ equal)))

  first_counts : (left : Option RefusalCount) → left ≡ left_of (place_at table at)
      → held (set table at (Some taken)) + (counted left + 1) ≡ held table + 1
  first_counts left same =
      let left_is : counted left ≡ held_at (place_at table at) = ap counted same ∙ left_counts (place_at table at) in
      let written : held (set table at (Some taken)) + held_at (place_at table at) ≡ held table + 0 =
      held_written table at (Some taken) (omega (arith, within, is.count)) in
      omega (arith, left_is, written)

  pub noted_first : (left : Option RefusalCount) → Lacks table refusal → IsOldest table at → left ≡ left_of (place_at table at)
      → IsNoted now refusal caller table (set table at (Some taken)) left (Some (record { refusal = refusal; caller = caller; count = 1 }))
  noted_first left lacks oldest same = record {
    first = λ _. refl;
    oldest = λ _. (at, oldest, same, refl);
    soon = λ other twin there equal. absurd (lacks other twin there equal);
    due = λ other twin there equal. absurd (lacks other twin there equal);
    counts = first_counts left same;
  }

-- What is due is told.
due_refusal : (table : Table) (at now : ℕ) (place : Option KeptRefusal) → IsTable table → at < 256 → place_at table at ≡ place
    → IsTable (set table at (after_due now place))
due_refusal table at now None is within kept = written_apart table at None is (omega (arith, within, is.count))
    (λ one twin other this. let no : ⊥ = cc in absurd no)
due_refusal table at now (Some was) is within kept = by_test (is_due now was && nat_lt 0 was.held)
  where
    by_test : (test : Bool) → IsTable (set table at (if test then Some (record was { held = 0; told = now }) else Some was))
    by_test true = again_is_table table at was (record was { held = 0; told = now }) is within kept refl
    by_test false = again_is_table table at was was is within kept refl

pub due_is_table : (table : Table) (at now : ℕ) → IsTable table → at < 256 → IsTable (set table at (after_due now (place_at table at)))
due_is_table table at now is within = due_refusal table at now (place_at table at) is within refl

due_counts : (now : ℕ) (place : Option KeptRefusal) → counted (due_of now place) + held_at (after_due now place) ≡ held_at place
due_counts now None = refl
due_counts now (Some kept) = by_test (is_due now kept)
  where
    left : counted (left_of (Some kept)) ≡ kept.held
    left = left_counts (Some kept)

    by_held : (test : Bool) → nat_lt 0 kept.held ≡ test
        → counted (left_of (Some kept)) + held_at (if test then Some (record kept { held = 0; told = now }) else Some kept) ≡ kept.held
    by_held true is = omega (arith, left)
    by_held false is = let none : kept.held ≡ 0 = search (rules, is) in omega (arith, left, none)

    by_test : (test : Bool) → counted (if test then left_of (Some kept) else None)
        + held_at (if test && nat_lt 0 kept.held then Some (record kept { held = 0; told = now }) else Some kept) ≡ kept.held
    by_test true = by_held (nat_lt 0 kept.held) refl
    by_test false = omega arith

-- All that is due is told, place by place.
module _ (now : ℕ) (table : Table) where
  pub record DueBelow (k : ℕ) (places : Table) : Type 0 where
    pub is : IsTable places
    pub below : (at : ℕ) → at < k → place_at places at ≡ after_due now (place_at table at)
    pub others : (at : ℕ) → k ≤ at → place_at places at ≡ place_at table at
    pub counts : held places + counted_by (dues_below now table k) ≡ held table

  pub none_below : IsTable table → DueBelow 0 table
  none_below is = record { is = is; below = λ at within. let no : ⊥ = omega (arith, within) in absurd no; others = λ at past. refl; counts = omega arith }

  next_counts : (k : ℕ) → counted_by (dues_below now table (suc k)) ≡ counted_by (dues_below now table k) + counted (due_of now (place_at table k))
  next_counts k = by_line (due_of now (place_at table k))
    where
      by_line : (line : Option RefusalCount) → counted_by (dues_below now table k ++ option_to_list line) ≡ counted_by (dues_below now table k) + counted line
      by_line None = ap counted_by (append-nil (dues_below now table k)) ∙ omega arith
      by_line (Some line) = sum_by_push (λ (one : RefusalCount). one.count) (dues_below now table k) line

  pub next_below : (k : ℕ) (places next : Table) → k < 256 → DueBelow k places → IsTable next
      → next ≡ set places k (after_due now (place_at places k)) → DueBelow (k + 1) next
  next_below k places next within was is same = record { is = is; below = below; others = others; counts = counts }
    where
      within_places : k < length places
      within_places = omega (arith, within, was.is.count)

      here : place_at places k ≡ place_at table k
      here = was.others k (omega arith)

      other : (at : ℕ) → at ≢ k → place_at next at ≡ place_at places at
      other at differs = ap (λ (t : Table). place_at t at) same ∙ get_or-set_other places k at (after_due now (place_at places k)) None differs

      below : (at : ℕ) → at < k + 1 → place_at next at ≡ after_due now (place_at table at)
      below at before = elim (cases_eq at k) [
        | inl e ↦ subst (λ (i : ℕ). place_at next i ≡ after_due now (place_at table i)) (sym e)
            (ap (λ (t : Table). place_at t k) same ∙ get_or-set_same places k (after_due now (place_at places k)) None within_places ∙ ap (after_due now) here)
        | inr differs ↦ other at differs ∙ was.below at (omega (arith, before, differs))
      ]

      others : (at : ℕ) → k + 1 ≤ at → place_at next at ≡ place_at table at
      others at past = other at (λ e. omega (arith, past, e)) ∙ was.others at (omega (arith, past))

      counts : held next + counted_by (dues_below now table (k + 1)) ≡ held table
      counts =
          let step : suc k ≡ k + 1 = omega arith in
          let written : held next + held_at (place_at places k) ≡ held places + held_at (after_due now (place_at places k)) =
          ap (λ (t : Table). held t + held_at (place_at places k)) same ∙ held_written places k (after_due now (place_at places k)) within_places in
          let due : counted (due_of now (place_at table k)) + held_at (after_due now (place_at table k)) ≡ held_at (place_at table k) = due_counts now (place_at table k) in
          let after : held_at (after_due now (place_at places k)) ≡ held_at (after_due now (place_at table k)) = ap (λ (p : Option KeptRefusal). held_at (after_due now p)) here in
          let before : held_at (place_at places k) ≡ held_at (place_at table k) = ap held_at here in
          let total : held places + counted_by (dues_below now table k) ≡ held table = was.counts in
          let more : counted_by (dues_below now table (suc k)) ≡ counted_by (dues_below now table k) + counted (due_of now (place_at table k)) = next_counts k in
          subst (λ (n : ℕ). held next + counted_by (dues_below now table n) ≡ held table) step (omega (arith, written, due, after, before, total, more))

  -- and so are its events
  pub next_events : (k : ℕ) (places : Table) (before between after : Waiting) (line : Option RefusalCount) → DueBelow k places
      → HaveCome before (events_of (dues_below now table k)) between → line ≡ due_of now (place_at places k)
      → HaveCome between (events_of (option_to_list line)) after → HaveCome before (events_of (dues_below now table (k + 1))) after
  next_events k places before between after line was came is comes =
      let step : suc k ≡ k + 1 = omega arith in
      let same : line ≡ due_of now (place_at table k) = is ∙ ap (due_of now) (was.others k (omega arith)) in
      subst (λ (n : ℕ). HaveCome before (events_of (dues_below now table n)) after) step
      (subst (λ (events : List LogEvent). HaveCome before events after)
      (sym (map-append Refused (dues_below now table k) (option_to_list (due_of now (place_at table k)))))
      (come_on before between after (events_of (dues_below now table k)) (events_of (option_to_list (due_of now (place_at table k)))) came
      (subst (λ (l : Option RefusalCount). HaveCome between (events_of (option_to_list l)) after) same comes)))

  -- at the last place that is all
  pub at_last : (k : ℕ) → IsTable table → k ≤ 256 → 256 ≤ k → k ≡ length table
  at_last k is within past = omega (arith, within, past, is.count)
