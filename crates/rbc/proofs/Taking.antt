-- What a statement that is taken at its place does to what a `Broadcasts` stands for.
use Rattle.std.proofs.Common.{ℕ, ◌≡◌, ◌≢◌, ◌<◌, Bool, true, false, cond, refl, sym, ap, ◌∙◌, Option, Some, None, is_some}
use Rattle.terms_prelude.specs.Terms.{Value, Place, Statement, FitsStep, got, is_foreign, is_none, Past, after_hearing}
use Rattle.rbc.specs.Outcomes.{Brings}
use Rattle.rbc.specs.Answers.{heard_of, IfNews}
use Rattle.rbc.specs.declared.Heard.TheVariants as heard
use Rattle.rbc.specs.declared.Taken.TheVariants.{News, Repeat, Foreign}
use Rattle.rbc.specs.Words.{Broadcasts, Brought, Taken, Counts, Receives, Known, same_spot, heard_as, BroadcastsStandFor, known_in, touched_known, broadcasts_size, broadcasts_got, echo_for, ready_for, spot_of, touched_made}
use Rattle.rbc.proofs.Cells.{known_in-spot}
use Rattle.rbc.proofs.Changes.{IsSame, is_None, no_change, none_got, one_heard}
use Rattle.rbc.proofs.Hearing.{news_heard, repeat_heard}
use Rattle.rbc.proofs.Saying.{same_stands}
use Rattle.rbc.proofs.Touching.{nothing_at}
use Rattle.rbc.proofs.Newly.{IsFirst, ready_now, echo_now, accepted_now, echo_known, ready_known, accepted_by_known}

-- how a statement is taken by what was got before
as_news : (o : Option Value) → is_some o ≡ false → cond (is_none o) heard.News heard.Repeat ≡ heard.News
as_news o e = ap (λ (x : Option Value). cond (is_none x) heard.News heard.Repeat) (is_None o e)

as_repeat : (o : Option Value) → is_some o ≡ true → cond (is_none o) heard.News heard.Repeat ≡ heard.Repeat
as_repeat None e = cc
as_repeat (Some v) e = refl

-- where the place has no cell it is news
pub news_unmade : (b : Broadcasts) (past : Past) (from : ℕ) (s : Statement) → BroadcastsStandFor b past → s.place.question ≡ past.question
    → is_foreign from s ≡ false → (touched_made b.cells (spot_of (broadcasts_size b).n s.place) ≡ true → ⊥) → heard_as past from s ≡ heard.News
unfolding broadcasts_size
news_unmade b past from s stands asked own short =
    ap (λ t. cond t heard.Foreign (cond (is_none (got past.heard from s.kind s.place)) heard.News heard.Repeat)) own
    ∙ as_news _ (ap is_some (sym (stands.facts.heard from s.kind s.place asked) ∙ none_got b s.place (nothing_at b.cells (spot_of b.size.n s.place) (unmade (touched_made b.cells (spot_of b.size.n s.place)) refl)) from s.kind))
  where
    unmade : (t : Bool) → touched_made b.cells (spot_of b.size.n s.place) ≡ t → touched_made b.cells (spot_of b.size.n s.place) ≡ false
    unmade true e = absurd (short e)
    unmade false e = e

module _ (b b' : Broadcasts) (same_size : b'.size ≡ b.size) (same_me : b'.me ≡ b.me) (from : ℕ) (s : Statement)
    (within : from < 64) (fit : FitsStep s.place.step s.value) (own : is_foreign from s ≡ false)
    (others : (q : Place) → known_in (touched_known b'.cells) b.size.n q
    ≡ cond (same_spot s.place q) (known_in (touched_known b'.cells) b.size.n s.place) (known_in (touched_known b.cells) b.size.n q)) where
  -- what is known of a place
  abbrev old : Place → Known
  old q = known_in (touched_known b.cells) b.size.n q

  -- and after the call
  abbrev new : Place → Known
  new q = known_in (touched_known b'.cells) b.size.n q

  -- a repeat changes nothing
  same_all : new s.place ≡ old s.place → IsSame b b'
  same_all e = no_change b b' same_size same_me (λ q. others q ∙ ap (λ (x : Known). cond (same_spot s.place q) x (old q)) e ∙ step q (same_spot s.place q) refl)
    where
      step : (q : Place) (t : Bool) → same_spot s.place q ≡ t → cond t (old s.place) (old q) ≡ old q
      step q true h = known_in-spot (touched_known b.cells) b.size.n s.place q h
      step q false h = refl

  -- what was got is what was heard
  got_before : (past : Past) → BroadcastsStandFor b past → s.place.question ≡ past.question
      → broadcasts_got b from s.kind s.place ≡ got past.heard from s.kind s.place
  got_before past stands asked = stands.facts.heard from s.kind s.place asked

  -- it is heard as it is taken
  pub taken_answer : (taken : Taken) → Receives b.size from s (old s.place) (new s.place) taken
      → (past : Past) → BroadcastsStandFor b past → s.place.question ≡ past.question → heard_of taken ≡ heard_as past from s
  unfolding broadcasts_size broadcasts_got
  taken_answer (News brought) c past stands asked =
      sym (ap (λ t. cond t heard.Foreign (cond (is_none (got past.heard from s.kind s.place)) heard.News heard.Repeat)) own
      ∙ as_news _ (ap is_some (sym (got_before past stands asked)) ∙ c.first))
  taken_answer Repeat c past stands asked =
      sym (ap (λ t. cond t heard.Foreign (cond (is_none (got past.heard from s.kind s.place)) heard.News heard.Repeat)) own
      ∙ as_repeat _ (ap is_some (sym (got_before past stands asked)) ∙ c.0))
  taken_answer Foreign c past stands asked = absurd c

  -- it stands for what was heard, and this
  pub taken_ok : (taken : Taken) → Receives b.size from s (old s.place) (new s.place) taken
      → (past : Past) → BroadcastsStandFor b past → s.place.question ≡ past.question → BroadcastsStandFor b' (after_hearing past from s)
  unfolding broadcasts_size broadcasts_got
  taken_ok (News brought) c past stands asked =
      news_heard b b' past from s stands
      (one_heard b b' same_size same_me from s within fit c.first
      (λ q. others q ∙ ap (λ (x : Known). cond (same_spot s.place q) x (old q)) c.heard))
      asked own c.first
  taken_ok Repeat c past stands asked =
      same_stands b b' (same_all c.1) (after_hearing past from s) (repeat_heard b past from s stands asked c.0)
  taken_ok Foreign c past stands asked = absurd c

  -- only news changes anything
  pub taken_unchanged : (taken : Taken) → Receives b.size from s (old s.place) (new s.place) taken → heard_of taken ≢ heard.News
      → (past : Past) → BroadcastsStandFor b past → BroadcastsStandFor b' past
  taken_unchanged (News brought) c other past stands = absurd (other refl)
  taken_unchanged Repeat c other past stands = same_stands b b' (same_all c.1) past stands
  taken_unchanged Foreign c other past stands = absurd c

  -- what is known of the place now, in the size of now
  known_now : known_in (touched_known b'.cells) b'.size.n s.place ≡ new s.place
  known_now = λ i. known_in (touched_known b'.cells) (same_size i).n s.place

  -- it is the first of its sender and kind there
  is_first : (brought : Brought) → Counts b.size from s (old s.place) (new s.place) brought
      → (past : Past) → BroadcastsStandFor b past → s.place.question ≡ past.question → IsFirst past from s
  unfolding broadcasts_size broadcasts_got
  is_first brought c past stands asked =
      record { own = own; first = sym (got_before past stands asked) ∙ is_None _ c.first }

  -- what it brings
  pub taken_brings : (taken : Taken) → Receives b.size from s (old s.place) (new s.place) taken → IfNews taken (Brings b from s)
  taken_brings (News brought) c =
      let before = accepted_by_known b s (old s.place) refl in
      let after = accepted_by_known b' s (new s.place) known_now in
      record {
        echo = λ past stands asked quiet.
            echo_now b b' past from s (is_first brought c past stands asked) stands (taken_ok (News brought) c past stands asked) asked quiet _
            (c.echo ∙ (λ i. echo_for (sym same_size i) (new s.place) s) ∙ echo_known b' s (new s.place) known_now);
        ready = λ past stands asked quiet.
            ready_now b b' past from s (is_first brought c past stands asked) stands (taken_ok (News brought) c past stands asked) asked quiet _
            (c.ready ∙ (λ i. ready_for (sym same_size i) (new s.place) s) ∙ ready_known b' s (new s.place) known_now);
        accepted = λ past stands asked.
            accepted_now b b' past from s (is_first brought c past stands asked) stands (taken_ok (News brought) c past stands asked) asked _
            (c.accepted ∙ λ i. cond (is_some (before i)) None (after i));
        fits = c.fits;
      }
  taken_brings Repeat c = tt
  taken_brings Foreign c = tt
