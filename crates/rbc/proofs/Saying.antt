-- What a statement of its own does to what a `Broadcasts` stands for, and what changes nothing.
use Rattle.std.proofs.Common.{ℕ, zero, suc, ◌≡◌, ◌≤◌, inl, inr, Bool, true, false, refl, sym, ap, ◌∙◌, arith, Option, None, IsSome, [], ◌∷◌, ◌++◌}
use Rattle.std.proofs.lemmas.Bool.{false≢true}
use Rattle.terms_prelude.specs.Terms.{Value, Kind, Initial, Echo, Ready, kind_eq, Place, Size, Statement, Said, count_below, said, keep_or, given, Past, no_past, after_record}
use Rattle.terms.proofs.Journal.{said-append_one}
use Rattle.rbc.specs.Words.{Broadcasts, no_known, touched_known, touched_made, spot_of, IsTouched, is_at, BroadcastsStandFor, broadcasts_size, broadcasts_me, broadcasts_accepted, broadcasts_said}
use Rattle.rbc.proofs.Changes.{IsSame, SaysOne, said_with, none_got, none_said, none_accepted}
use Rattle.rbc.proofs.Touching.{nothing_at}
use Rattle.rbc.proofs.Spots.{about-at}

-- the same words stand for the same pasts
pub same_stands : (b b' : Broadcasts) → IsSame b b' → (past : Past) → BroadcastsStandFor b past → BroadcastsStandFor b' past
same_stands b b' same past stands =
    record {
      size = same.size ∙ stands.size;
      me = same.me ∙ stands.me;
      facts = record {
        heard = λ a kind place q. same.got a kind place ∙ stands.facts.heard a kind place q;
        taken = λ place m q h. stands.facts.taken place m q (sym (same.accepted place) ∙ h);
        open_yet = λ place m q h. stands.facts.open_yet place m q (sym (same.accepted place) ∙ h);
        echoed = λ place q. same.said Echo place ∙ stands.facts.echoed place q;
        readied = λ place q. same.said Ready place ∙ stands.facts.readied place q;
      };
    }

module _ (b b' : Broadcasts) (past : Past) (s : Statement) (stands : BroadcastsStandFor b past) (more : SaysOne b b' s)
    (asked : s.place.question ≡ past.question) where
  -- what was said as that kind is what the records have
  said_more : (kind : Kind) (place : Place) → place.question ≡ past.question
      → broadcasts_said b kind place ≡ said past.records kind place
      → said_with b s kind place ≡ said (past.records ++ Said s ∷ []) kind place
  said_more kind place e h =
      ap (λ x. keep_or x (given (is_at s kind place) s.value)) h
      ∙ ap (λ t. keep_or (said past.records kind place) (given t s.value)) (sym (about-at s kind place (asked ∙ sym e)))
      ∙ sym (said-append_one past.records s kind place)

  -- what is noted is said
  pub noted_said : BroadcastsStandFor b' (after_record past (Said s))
  noted_said =
      record {
        size = more.size ∙ stands.size;
        me = more.me ∙ stands.me;
        facts = record {
          heard = λ a kind place q. more.got a kind place ∙ stands.facts.heard a kind place q;
          taken = λ place m q h. stands.facts.taken place m q (sym (more.accepted place) ∙ h);
          open_yet = λ place m q h. stands.facts.open_yet place m q (sym (more.accepted place) ∙ h);
          echoed = λ place q. more.echoed place ∙ said_more Echo place q (stands.facts.echoed place q);
          readied = λ place q. more.readied place ∙ said_more Ready place q (stands.facts.readied place q);
        };
      }

-- no member passes a test that fails
none_counted : (n : ℕ) → 1 ≤ count_below n (λ a. false) → ⊥
none_counted zero h = omega (arith, h)
none_counted (suc n) h = none_counted n (omega (arith, h))

-- an empty table stands for nothing heard and nothing said
pub empty_stands : (b : Broadcasts) (size : Size) (me question : ℕ) → b.size ≡ size → b.me ≡ me
    → ((spot : ℕ) → touched_known b.cells spot ≡ no_known) → BroadcastsStandFor b (no_past size me question)
unfolding broadcasts_size broadcasts_me broadcasts_accepted
empty_stands b size me question same_size same_me h =
    record {
      size = same_size;
      me = same_me;
      facts = record {
        heard = λ a kind place q. none_got b place (past place) a kind;
        taken = λ place m q e. let none = none_accepted b place (past place) in cc;
        open_yet = λ place m q e r. none_counted size.n (omega (arith, r));
        echoed = λ place q. none_said b place (past place) Echo;
        readied = λ place q. none_said b place (past place) Ready;
      };
    }
  where
    past : (place : Place) → touched_known b.cells (spot_of b.size.n place) ≡ no_known
    past place = h (spot_of b.size.n place)

-- a place of which something is known has a cell
pub touched : (b : Broadcasts) (past : Past) (place : Place) → BroadcastsStandFor b past → place.question ≡ past.question
    → IsTouched past place → touched_made b.cells (spot_of (broadcasts_size b).n place) ≡ true
unfolding broadcasts_size
touched b past place stands asked h = step (touched_made b.cells (spot_of b.size.n place)) refl h
  where
    differ : (x y : Option Value) → x ≡ y → x ≡ None → IsSome y → ⊥
    differ x y e n t = false≢true (rw (sym e ∙ n) at t)

    step : (t : Bool) → touched_made b.cells (spot_of b.size.n place) ≡ t → IsTouched past place → t ≡ true
    step true e h = refl
    step false e (inl (a, kind, h)) =
        absurd (differ _ _ (stands.facts.heard a kind place asked) (none_got b place (nothing_at b.cells (spot_of b.size.n place) e) a kind) h)
    step false e (inr (inl h)) = absurd (differ _ _ (stands.facts.echoed place asked) (none_said b place (nothing_at b.cells (spot_of b.size.n place) e) Echo) h)
    step false e (inr (inr h)) = absurd (differ _ _ (stands.facts.readied place asked) (none_said b place (nothing_at b.cells (spot_of b.size.n place) e) Ready) h)

-- where it has no cell nothing was said
pub not_said : (b : Broadcasts) (past : Past) (s : Statement) → BroadcastsStandFor b past → s.place.question ≡ past.question
    → kind_eq s.kind Initial ≡ false → (touched_made b.cells (spot_of (broadcasts_size b).n s.place) ≡ true → ⊥)
    → said past.records s.kind s.place ≡ None
unfolding broadcasts_size
not_said b past s stands asked other short = step s.kind other
  where
    which : (t : Bool) → touched_made b.cells (spot_of b.size.n s.place) ≡ t → touched_made b.cells (spot_of b.size.n s.place) ≡ false
    which true e = absurd (short e)
    which false e = e

    beyond : touched_known b.cells (spot_of b.size.n s.place) ≡ no_known
    beyond = nothing_at b.cells (spot_of b.size.n s.place) (which (touched_made b.cells (spot_of b.size.n s.place)) refl)

    step : (kind : Kind) → kind_eq kind Initial ≡ false → said past.records kind s.place ≡ None
    step Initial h = cc
    step Echo h = sym (stands.facts.echoed s.place asked) ∙ none_said b s.place beyond Echo
    step Ready h = sym (stands.facts.readied s.place asked) ∙ none_said b s.place beyond Ready
