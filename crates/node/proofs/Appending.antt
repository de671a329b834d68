-- The step that appends a group keeps the rule of an account.
use Rattle.std.proofs.Common.{◌≡◌, ℕ, ◌+◌, ◌<◌, ◌==◌, Bool, true, false, Option, List, [], ◌∷◌, ◌++◌, length, refl, ap, sym, subst, arith, inl, length-append}
use Rattle.std.proofs.lemmas.List.{append-nil}
use Rattle.std.proofs.lemmas.Bool.Decides.{nat_tests}
use mathlib.Core.List.{IsPrefix}
use prog.Atomic.{either}
use Rattle.logbook.specs.Pages.{Cell, cell, keeps, no_nib, step, Moves, Goes, View}
use Rattle.node.specs.Accounts.{Group, Appends, words_of}
use Rattle.node.proofs.Fronts.{front_is_all}

abbrev counts : List Cell → List Group → Type 0
counts words log = words ≡ words_of log

abbrev shows_none : List Group → List Group
shows_none log = []

abbrev any_move : List Group → List Group → ℕ → Type 0
any_move before after answer = Unit {0}

-- an account has a word with its number, which one step may change
module _ (seen : List Group) (state : Option ℕ) (group : Group) (old : ℕ) (number : length seen ≡ old) where
  abbrev Then : ℕ → View Group ℕ → Type 0
  Then = Appends (step 0 old (old + 1) group) (seen, (no_nib, state))

  abbrev Leads : List Cell → List Group → Type 0
  Leads words log = Goes counts shows_none any_move 0 (seen, (no_nib, state)) (λ n. either (n == old) (old + 1) n) Then words log

  leads : (log : List Group) → IsPrefix seen log → (b : Bool) → (length log == old) ≡ b → Leads (words_of log) log
  leads log begins true is =
      let few : length log ≡ old = grind (arith, nat_tests) in
      let all : seen ≡ log = front_is_all seen log begins (omega arith) in
      let more : either (length log == old) (old + 1) (length log) ≡ length (log ++ group ∷ []) = rw is (omega (arith, length-append log (group ∷ []))) in
      (keeps, group ∷ [], state, tt, ap (λ (n : ℕ). (n, true) ∷ (0, true) ∷ []) more, inl (refl, refl), rw is (ap (λ l. l ++ group ∷ []) (sym all)))
  leads log begins false is =
      let none : log ++ [] ≡ log = append-nil log in
      let same : either (length log == old) (old + 1) (length log) ≡ length (log ++ []) = rw is (ap length (sym none)) in
      (keeps, [], state, tt, ap (λ (n : ℕ). (n, true) ∷ (0, true) ∷ []) same, inl (refl, refl), rw is (ap length none))

  pub appends : Moves counts shows_none any_move 0 (seen, (no_nib, state)) (λ n. either (n == old) (old + 1) n) Then
  appends words log kept begins away =
      subst (λ c. (0 < length c) × ((cell c 0).1 ≡ true) × Leads c log) (sym kept) (omega arith, refl, leads log begins (length log == old) refl)
