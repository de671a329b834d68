-- What a history has of a question was heard, by the account of its book.
use Rattle.std.proofs.Common.{◌≡◌, ℕ, ◌==◌, inl, inr, refl, ap, sym, ◌∙◌, subst, Bool, true, false, cond, List, [], ◌∷◌, ◌++◌, append_assoc, append-nil, if◌then◌else◌}
use Rattle.terms_prelude.specs.Terms.{Statement}
use Rattle.questions.specs.Replay.{Entry}
use Rattle.questions.specs.Words.{Heard, Proposed, link_part}
use Rattle.node.specs.Words.{AreFirstsOn, Group, IsWithin, WereHeard, firsts_of, grown, heard_on, is_first, said_by, said_of, statements_on}
use Rattle.node.proofs.Counting.{within_later}

-- what a peer said of a question, in the order of its link
said_of_history : (p q : ℕ) (history : List Entry) → said_of p (heard_on q history) ≡ statements_on q (link_part p history)
said_of_history p q [] = refl
said_of_history p q (Proposed question bit toss ∷ history) = said_of_history p q history
said_of_history p q (Heard from s toss ∷ history) =
    step (s.place.question == q) (from == p) refl refl (said_of_history p q history)
  where
    own_side : Bool → List Statement
    own_side b = if b then s ∷ said_of p (heard_on q history) else said_of p (heard_on q history)

    question_side : Bool → List Statement
    question_side b = cond b (s ∷ statements_on q (link_part p history)) (statements_on q (link_part p history))

    step : (on own : Bool) → (s.place.question == q) ≡ on → (from == p) ≡ own → said_of p (heard_on q history) ≡ statements_on q (link_part p history)
        → said_of p (cond on ((from, s) ∷ heard_on q history) (heard_on q history)) ≡ statements_on q (cond own (s ∷ link_part p history) (link_part p history))
    step true true t u h = ap own_side u ∙ ap (λ (l : List Statement). s ∷ l) h ∙ sym (ap question_side t)
    step true false t u h = ap own_side u ∙ h
    step false true t u h = h ∙ sym (ap question_side t)
    step false false t u h = h

-- what stands in what stands in a list
within_within : (a b c : List Statement) → IsWithin a b → IsWithin b c → IsWithin a c
within_within [] b c h k = tt
within_within (s ∷ a) [] c h k = absurd h
within_within (s ∷ a) (t ∷ b) [] h k = absurd k
within_within (s ∷ a) (t ∷ b) (u ∷ c) h (inr k) = inr (within_within (s ∷ a) (t ∷ b) c h k)
within_within (s ∷ a) (t ∷ b) (u ∷ c) (inl h) (inl k) = inl (h.0 ∙ k.0, within_within a b c h.1 k.1)
within_within (s ∷ a) (t ∷ b) (u ∷ c) (inr h) (inl k) = inr (within_within (s ∷ a) b c h k.1)

-- those on a question stand among all
on_within : (q : ℕ) (all : List Statement) → IsWithin (statements_on q all) all
on_within q [] = tt
on_within q (s ∷ all) = step (s.place.question == q) (on_within q all)
  where
    step : (b : Bool) → IsWithin (statements_on q all) all → IsWithin (cond b (s ∷ statements_on q all) (statements_on q all)) (s ∷ all)
    step true h = inl (refl, h)
    step false h = within_later (statements_on q all) (s ∷ []) all h

-- what firsts gain stands in what they gain it of
record Gains (p : ℕ) (f more : List Statement) : Type 0 where
  picks : List Statement
  is : grown p f more ≡ f ++ picks
  within : IsWithin picks more

gains : (p : ℕ) (f more : List Statement) → Gains p f more
gains p f [] = record { picks = []; is = sym (append-nil f); within = tt }
gains p f (s ∷ more) = step (is_first p f s) refl (gains p (f ++ s ∷ []) more) (gains p f more)
  where
    grows : Bool → List Statement
    grows b = grown p (if b then f ++ s ∷ [] else f) more

    step : (b : Bool) → is_first p f s ≡ b → Gains p (f ++ s ∷ []) more → Gains p f more → Gains p f (s ∷ more)
    step true t on off = record {
      picks = s ∷ on.picks;
      is = ap grows t ∙ on.is ∙ append_assoc f (s ∷ []) on.picks;
      within = inl (refl, on.within);
    }
    step false t on off = record { picks = off.picks; is = ap grows t ∙ off.is; within = within_later off.picks (s ∷ []) more off.within }

firsts_within : (p : ℕ) (all : List Statement) → IsWithin (firsts_of p all) all
firsts_within p all = (let g = gains p [] all in subst (λ (l : List Statement). IsWithin l all) (sym g.is) g.within)

module _ (log : List Group) (history : List Entry) (tied : (peer : ℕ) → link_part peer history ≡ firsts_of peer (said_by peer log)) where
  -- of each member the history has of a question just its firsts by the account
  pub are_firsts : (q : ℕ) → AreFirstsOn log q (heard_on q history)
  are_firsts q peer = said_of_history peer q history ∙ ap (statements_on q) (tied peer)

  -- and so nothing that wasn't heard
  pub were_heard : (q : ℕ) → WereHeard log (heard_on q history)
  were_heard q peer =
      subst (λ (l : List Statement). IsWithin l (said_by peer log)) (sym (are_firsts q peer))
      (within_within (statements_on q (firsts_of peer (said_by peer log))) (firsts_of peer (said_by peer log)) (said_by peer log)
      (on_within q (firsts_of peer (said_by peer log))) (firsts_within peer (said_by peer log)))
