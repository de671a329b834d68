-- One toss more.
use Rattle.std.proofs.Common.{◌≡◌, refl, sym, ap, ◌∙◌, subst, ℕ, List, [], ◌∷◌, ◌++◌}
use Rattle.std.proofs.lemmas.List.{map-append}
use Rattle.terms_prelude.specs.Terms.{Statement}
use Rattle.rounds.specs.declared.tosses.Toss.{Toss}
use Rattle.links.specs.Tosses.{Draws, tosses_in}

pub draws-snoc : {T : Type 0} (may_toss : T → ℕ → T → Type 0) (old mid new : T) (tosses : List ℕ) (toss : ℕ)
    → Draws may_toss old tosses mid → may_toss mid toss new → Draws may_toss old (tosses ++ toss ∷ []) new
draws-snoc {T} may_toss old mid new [] toss drawn one = (new, subst (λ (t : T). may_toss t toss new) drawn one, refl)
draws-snoc may_toss old mid new (x ∷ tosses) toss drawn one = (drawn.0, drawn.1, draws-snoc may_toss drawn.0 mid new tosses toss drawn.2 one)

pub draws_one_more : {T : Type 0} (may_toss : T → ℕ → T → Type 0) (old mid new : T) (events after : List (Statement × Toss)) (event : Statement × Toss)
    → Draws may_toss old (tosses_in events) mid → may_toss mid event.1.0 new → after ≡ events ++ event ∷ [] → Draws may_toss old (tosses_in after) new
draws_one_more may_toss old mid new events after event drawn one is =
    subst (λ (l : List ℕ). Draws may_toss old l new)
    (sym (ap tosses_in is ∙ map-append (λ (e : Statement × Toss). e.1.0) events (event ∷ [])))
    (draws-snoc may_toss old mid new (tosses_in events) event.1.0 drawn one)
