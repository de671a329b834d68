-- How far a question is, by the own Initials that it noted.
use Rattle.std.proofs.Common.{ℕ, ◌≡◌, ◌+◌, ◌-◌, ◌*◌, ◌≤◌, true, false, refl, sym, ap, ◌∙◌, arith, Option, Some, None, is_some, get_or, true≢false}
use Rattle.terms_prelude.specs.Terms.{Initial, Value, Place, IsPlace, new_place, said, Past}
use Rattle.rounds.specs.declared.questions.Question.{Question}
use Rattle.rounds.specs.Readers.{question_own}
use Rattle.rounds.specs.Progress.{IsLastInitial, SaidNoInitial}
use Rattle.rounds.specs.Stands.{QuestionStandsFor}

-- what isn't there is none
none_of : (o : Option Value) → is_some o ≡ false → o ≡ None
none_of None e = refl
none_of (Some x) e = absurd (true≢false e)

module _ (q : Question) (past : Past) (st : QuestionStandsFor q past) where
  -- an own Initial that wasn't noted wasn't said
  unsaid : (p : Place) → IsPlace p → p.question ≡ past.question → p.origin ≡ past.me
      → get_or q.said (3 * p.round + p.step - 4) false ≡ false → said past.records Initial p ≡ None
  unfolding question_own
  unsaid p i e o h = none_of (said past.records Initial p) (sym (st.rounds.own p i e o) ∙ h)

  -- where none was noted none was said
  pub none_said : ((i : ℕ) → get_or q.said i false ≡ false) → SaidNoInitial past.records past.me past.question
  none_said none p i e o = unsaid p i e o (none (3 * p.round + p.step - 4))

  -- the last that was noted is the last that was said
  pub last_said : (end round step : ℕ) → IsPlace (new_place 0 0 round step) → 3 * round + step ≡ end - 1 + 4 → 1 ≤ end
      → get_or q.said (end - 1) false ≡ true → ((i : ℕ) → end ≤ i → get_or q.said i false ≡ false)
      → IsLastInitial past.records past.me past.question (round, step)
  unfolding question_own
  last_said end round step place number some last none =
      let at = new_place past.question past.me round step in
      let is : IsPlace at = record { from_one = place.from_one; to_last = place.to_last; first = place.first; third = place.third } in
      let code : 3 * round + step - 4 ≡ end - 1 = omega arith in
      record {
        place = is;
        said_it = sym (st.rounds.own at is refl refl) ∙ (ap (λ k. get_or q.said k false) code ∙ last);
        last = λ p i e o later. unsaid p i e o (none (3 * p.round + p.step - 4) (omega (arith, later, number, some)));
      }
