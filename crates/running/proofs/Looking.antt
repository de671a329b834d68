-- What is told of a book, question by question.
use Rattle.std.proofs.Common.{ℕ, zero, suc, ◌≡◌, ◌+◌, ◌<◌, ◌≤◌, Bool, true, ◌||◌, refl, sym, ap, ◌∙◌, subst, arith, inl, inr, Option, Some, None, List, [], ◌∷◌, ◌++◌, length, is_some, slice_get, slice_set, slice_index_or}
use Rattle.std.specs.Prelude.{option_map}
use Rattle.std.specs.Option.{option_to_list}
use Rattle.std.proofs.lemmas.Bool.{cases_eq}
use Rattle.terms_prelude.specs.Terms.{Record}
use Rattle.member.specs.Answers.{verdict_of}
use Rattle.running.specs.declared.events.LogEvent.{LogEvent}
use Rattle.running.specs.Queues.{Waiting, HaveCome}
use Rattle.running.specs.Watches.{HaveFit}
use Rattle.running.specs.Watches.{Watching, AreTold, decision_event, decision_of, decisions_below, is_told}

-- a question that is looked at has its own entry changed, and no other
set_same : (told : List Bool) (k : ℕ) (v : Bool)
    → slice_get (slice_set told k (slice_index_or told k true || v)) k ≡ option_map (λ t. t || v) (slice_get told k)
set_same [] k v = refl
set_same (t ∷ told) zero v = refl
set_same (t ∷ told) (suc k) v = set_same told k v

set_other : (told : List Bool) (k q : ℕ) (v : Bool) → (q ≡ k → ⊥) → slice_get (slice_set told k v) q ≡ slice_get told q
set_other [] k q v other = refl
set_other (t ∷ told) zero zero v other = absurd (other refl)
set_other (t ∷ told) zero (suc q) v other = refl
set_other (t ∷ told) (suc k) zero v other = refl
set_other (t ∷ told) (suc k) (suc q) v other = set_other told k q v (λ e. other (ap suc e))

-- one question more
told_next : (saved : List Record) (k : ℕ) (old mid : List Bool) → AreTold saved k old mid
    → AreTold saved (k + 1) old (slice_set mid k (slice_index_or mid k true || is_some (verdict_of saved k)))
told_next saved k old mid was = record { below = below; others = others }
  where
    v : Bool
    v = slice_index_or mid k true || is_some (verdict_of saved k)

    below : (q : ℕ) → q < k + 1 → slice_get (slice_set mid k v) q ≡ option_map (λ told. told || is_some (verdict_of saved q)) (slice_get old q)
    below q within = elim (cases_eq q k) [
      | inl same ↦ subst (λ (n : ℕ). slice_get (slice_set mid k v) n ≡ option_map (λ told. told || is_some (verdict_of saved n)) (slice_get old n)) (sym same)
          (set_same mid k (is_some (verdict_of saved k)) ∙ ap (option_map (λ told. told || is_some (verdict_of saved k))) (was.others k (omega arith)))
      | inr other ↦ set_other mid k q v other ∙ was.below q (omega (arith, within, other))
    ]

    others : (q : ℕ) → k + 1 ≤ q → slice_get (slice_set mid k v) q ≡ slice_get old q
    others q past = set_other mid k q v (λ same. omega (arith, past, same)) ∙ was.others q (omega (arith, past))

-- what is told of the next question is as before the first one
event_same : (saved : List Record) (k : ℕ) (old mid : Watching) → AreTold saved k old.told mid.told
    → decision_of mid saved k ≡ decision_of old saved k
event_same saved k old mid was =
    ap (λ (told : Bool). decision_event told k (verdict_of saved k)) (index_same (was.others k (omega arith)))
  where
    or_true : Option Bool → Bool
    or_true None = true
    or_true (Some told) = told

    by_get : (told : List Bool) (k : ℕ) → or_true (slice_get told k) ≡ slice_index_or told k true
    by_get [] k = refl
    by_get (t ∷ told) zero = refl
    by_get (t ∷ told) (suc k) = by_get told k

    index_same : slice_get mid.told k ≡ slice_get old.told k → slice_index_or mid.told k true ≡ slice_index_or old.told k true
    index_same same = sym (by_get mid.told k) ∙ ap or_true same ∙ by_get old.told k

-- what came after what came, while there was room
fit_on : (old mid new : Waiting) (events more : List LogEvent) → HaveFit old events mid → HaveFit mid more new → HaveFit old (events ++ more) new
fit_on old mid new [] more same come = subst (λ (w : Waiting). HaveFit w more new) same come
fit_on old mid new (event ∷ events) more (room, (next, first, rest)) come = (room, (next, first, fit_on next mid new events more rest come))

-- an event that came while there was room
fit_one : (before after : Waiting) (event : Option LogEvent) → length before.events < 1024 → HaveCome before (option_to_list event) after
    → HaveFit before (option_to_list event) after
fit_one before after None room same = same
fit_one before after (Some event) room (next, came, rest) = (room, (next, came, rest))

-- the next question's news come behind those before it
pub come_next : (saved : List Record) (k : ℕ) (old mid : Watching) (before between after : Waiting) (event : Option LogEvent)
    → HaveFit before (decisions_below old saved k) between → AreTold saved k old.told mid.told
    → length between.events < 1024 → event ≡ decision_of mid saved k → HaveCome between (option_to_list event) after
    → HaveFit before (decisions_below old saved (k + 1)) after
come_next saved k old mid before between after event came told room is comes =
    let next : suc k ≡ k + 1 = omega arith in
    subst (λ (n : ℕ). HaveFit before (decisions_below old saved n) after) next
    (fit_on before between after (decisions_below old saved k) (option_to_list (decision_of old saved k)) came
    (subst (λ (e : Option LogEvent). HaveFit between (option_to_list e) after) (is ∙ event_same saved k old mid told)
    (fit_one between after event room comes)))

-- so the next question's decision needs no telling any more, and what is told of the stop is as it was
module _ (saved : List Record) (k : ℕ) (old mid between now : Watching)
    (looked : between ≡ record mid { told = slice_set mid.told k (is_told mid k || is_some (verdict_of saved k)) }) (put : now ≡ between) where
  pub told_on : AreTold saved k old.told mid.told → AreTold saved (k + 1) old.told now.told
  told_on was =
      subst (λ (w : Watching). AreTold saved (k + 1) old.told w.told) (sym put)
      (subst (λ (w : Watching). AreTold saved (k + 1) old.told w.told) (sym looked) (told_next saved k old.told mid.told was))

  pub stop_stays : mid.stopped ≡ old.stopped → now.stopped ≡ old.stopped
  stop_stays same = ap (λ (w : Watching). w.stopped) put ∙ (ap (λ (w : Watching). w.stopped) looked ∙ same)
