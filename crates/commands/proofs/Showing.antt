-- The page of a run.
use Rattle.std.proofs.Common.{ℕ, ◌≡◌, subst, List, Option}
use Rattle.std.specs.Io.KnownBytes.{Appends}
use Rattle.terms_prelude.specs.Terms.{Size}
use Rattle.sim.specs.declared.events.Event.{Event}
use Rattle.sim.specs.declared.cluster.Outcome.{Outcome}
use Rattle.playing.specs.Pages.{run_json, page_text}

-- the same page of the same liars and events
pub page_of_run : (a b : Option (List ℕ)) (before after name liars all : List ℕ) (size : Size) (events script : List Event) (outcome : Outcome)
    → liars ≡ all → events ≡ script → Appends a b (page_text before after (run_json name size liars events outcome))
    → Appends a b (page_text before after (run_json name size all script outcome))
page_of_run a b before after name liars all size events script outcome e f h =
    subst (λ (l : List ℕ). Appends a b (page_text before after (run_json name size l script outcome))) e
    (subst (λ (s : List Event). Appends a b (page_text before after (run_json name size liars s outcome))) f h)
