-- A script as a run of the world.
use Rattle.std.proofs.Common.{◌≡◌, ◌≤◌, ℕ, Bool, List, [], ◌∷◌, ◌++◌, refl, sym, ap, subst, ◌∙◌, append-nil, append_assoc}
use Rattle.std.specs.Global.{Vec}
use Rattle.terms_prelude.specs.Terms.{Size, Record, IsSize, count_below}
use Rattle.world.specs.World.{World, Step, IsRun, start, after_all}
use Rattle.world.proofs.Runs.{IsRun-append, after_all-append}
use Rattle.world.proofs.Keeps.{reached_ok}
use Rattle.world.proofs.Invariant.{said_sent}
use Rattle.world.proofs.Order.{reached_order}
use Rattle.sim.specs.Words.{Event, Mark, Post, Scene, IsCluster, IsEvent, IsRunOf, IsTurn, IsSteady, IsFollowed}

-- one event more
run-append : (size : Size) (liars : ℕ → Bool) (c : Scene) (events : List Event) (marks : List Mark) (records : List (Vec Record)) (steps : List Step) (mid : Scene)
    (event : Event) (mark : Mark) (saved : Vec Record) (more : List Step) (next : Scene)
    → IsRunOf size liars c events marks records steps mid → IsEvent size liars mid event mark saved.items more next
    → IsRunOf size liars c (events ++ event ∷ []) (marks ++ mark ∷ []) (records ++ saved ∷ []) (steps ++ more) next
run-append size liars c [] [] [] steps mid event mark saved more next h one =
    (more, [], next, ap (λ (l : List Step). l ++ more) h.0 ∙ sym (append-nil more), subst (λ (s : Scene). IsEvent size liars s event mark saved.items more next) h.1 one, (refl, refl))
run-append size liars c (e ∷ events) (m ∷ marks) (r ∷ records) steps mid event mark saved more next (first, others, then, is, did, tail) one = (
  first,
  others ++ more,
  then,
  ap (λ (l : List Step). l ++ more) is ∙ append_assoc first others more,
  did,
  run-append size liars then events marks records others mid event mark saved more next tail one,
)
run-append size liars c [] [] (r ∷ records) steps mid event mark saved more next h one = absurd h
run-append size liars c [] (m ∷ marks) records steps mid event mark saved more next h one = absurd h
run-append size liars c (e ∷ events) [] records steps mid event mark saved more next h one = absurd h
run-append size liars c (e ∷ events) (m ∷ marks) [] steps mid event mark saved more next h one = absurd h

module _ (size : Size) (liars : ℕ → Bool) (c : Scene) where
  pub none_followed : (posts : List Post) → IsCluster size liars c posts → IsFollowed size liars c [] [] [] posts
  none_followed posts at = record { steps = []; last = c; run = (refl, refl); world_is = refl; is_run = tt; at = at }

  pub one_followed : (events : List Event) (marks : List Mark) (records : List (Vec Record)) (event : Event) (mark : Mark) (saved : Vec Record) (old new : List Post)
      (f : IsFollowed size liars c events marks records old) → IsTurn size liars f.last event mark saved.items new
      → IsFollowed size liars c (events ++ event ∷ []) (marks ++ mark ∷ []) (records ++ saved ∷ []) new
  one_followed events marks records event mark saved old new f turn = record {
    steps = f.steps ++ turn.steps;
    last = turn.next;
    run = run-append size liars c events marks records f.steps f.last event mark saved turn.steps turn.next f.run turn.is;
    world_is = turn.world_is ∙ ap (λ (w : World). after_all w turn.steps) f.world_is ∙ sym (after_all-append c.world f.steps turn.steps);
    is_run = IsRun-append size liars c.world f.steps turn.steps f.is_run (subst (λ (w : World). IsRun size liars w turn.steps) f.world_is turn.is_run);
    at = turn.at;
  }

  pub steady : IsSize size → count_below size.n liars ≤ size.t → c.world ≡ start → (events : List Event) (marks : List Mark) (records : List (Vec Record)) (posts : List Post) (f : IsFollowed size liars c events marks records posts)
      → IsSteady size liars f.last
  steady ok few begun events marks records posts f =
      let run : IsRun size liars start f.steps = subst (λ (w : World). IsRun size liars w f.steps) begun f.is_run in
      let world : f.last.world ≡ after_all start f.steps = f.world_is ∙ ap (λ (w : World). after_all w f.steps) begun in
      record {
        may = record { steps = f.steps; reached = record { lawful = ok; few = few; is_run = run }; world_is = world };
        said = λ p s correct said. rw world (said_sent size liars (after_all start f.steps) (reached_ok size liars ok few f.steps run) p correct s (rw world at said));
        formed = λ p s sent. ((reached_order size liars ok few f.steps run).sent p s (rw world at sent)).1;
      }
