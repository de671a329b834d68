-- Events that are played one after another.
use Rattle.std.proofs.Common.{◌≡◌, ◌<◌, ◌≤◌, ◌^◌, ℕ, zero, suc, Bool, Bor, Option, Some, None, IfSome, MatchOption, option_map, List, [], ◌∷◌, length, drop, get_or, set, length-drop, refl, sym, ap, subst, ◌∙◌, arith}
use Rattle.std.specs.List.{slice_get}
use Rattle.std.proofs.lemmas.Option.{slice_get_past}
use Rattle.std.specs.Global.{Vec}
use Rattle.terms_prelude.specs.Terms.{Size, Record, IsSize}
use Rattle.sim.specs.Words.{Event, Mark, Post, SimFault, Scene, opening, IsCluster, AreLiars, IsSimulation, HaveOneBit, AreUnanimous, Verdict, among, verdicts_of, IsTurn, IsSteady, saved_in, ClusterFields, Played, ClusterStandsFor, unplayed, and_then, saved_behind, saved_among, last_saved}
use Rattle.world.specs.Words.{EveryRun, Agree, Unanimous}
use Rattle.sim.specs.declared.faults.SimFault.TheVariants as faults
use Rattle.sim.proofs.Loop.{none_followed, one_followed, steady}
use Rattle.sim.proofs.Simulations.{few_lie, simulations_agree, simulations_unanimous}

-- the world of what was played is steady
pub steady_now : (past : Played) (cluster : ClusterFields) (s : ClusterStandsFor past cluster) → IsSteady past.size past.liars s.followed.last
steady_now past cluster s = steady past.size past.liars (opening past.fused) s.lawful s.few refl past.script past.marks past.saved cluster.posts s.followed

-- one event more
pub played_on : (past : Played) (old new : ClusterFields) (event : Event) (mark : Mark) (saved : Vec Record) (s : ClusterStandsFor past old) → new.size ≡ old.size
    → IsTurn past.size past.liars s.followed.last event mark saved.items new.posts → ClusterStandsFor (and_then past event mark saved) new
played_on past old new event mark saved s same turn = record {
  lawful = s.lawful;
  few = s.few;
  size_is = same ∙ s.size_is;
  followed = one_followed past.size past.liars (opening past.fused) past.script past.marks past.saved event mark saved old.posts new.posts s.followed turn;
}

-- the item that was put there
get_set : {A : Type 0} (xs : List A) (i : ℕ) (x : A) → i < length xs → slice_get (set xs i x) i ≡ Some x
get_set [] i x h = absurd (omega (arith, h))
get_set (y ∷ ys) zero x h = refl
get_set (y ∷ ys) (suc i) x h = get_set ys i x (omega (arith, h))

item_at : {A : Type 0} (xs : List A) (i : ℕ) (d : A) → i < length xs → slice_get xs i ≡ Some (get_or xs i d)
item_at [] i d h = absurd (omega (arith, h))
item_at (x ∷ xs) zero d h = refl
item_at (x ∷ xs) (suc i) d h = item_at xs i d (omega (arith, h))

-- what a look at an index gives
pub looked_up : {A : Type 0} (xs : List A) (i : ℕ) (r : Option (Bor A)) (P : Bor A → Type 0) → MatchOption r (length xs ≤ i) (λ x. (i < length xs) × P x)
    → IfSome r (λ x. x.now ≡ get_or xs i x.now) → option_map (λ x. x.now) r ≡ slice_get xs i
looked_up xs i None P h is = sym (slice_get_past xs i h)
looked_up xs i (Some x) P h is = sym (item_at xs i x.now h.0 ∙ ap Some (sym is))

-- what the post that was changed has saved behind what it had
pub saved_there : (posts : List Post) (i p : ℕ) (post : Post) (before : ℕ) → i ≡ p → p < length posts
    → saved_behind (slice_get (set posts i post) p) before ≡ drop before (saved_in post.presence)
saved_there posts i p post before e h =
    ap (λ (o : _). saved_behind o before) (ap (λ (j : ℕ). slice_get (set posts j post) p) e ∙ get_set posts p post h)

pub few_behind : (records : List Record) (before : ℕ) → length records < 2 ^ 63 → length (drop before records) < 2 ^ 63
few_behind records before h = let l = length-drop before records in omega (arith, l, h)

module _ (past : Played) (old : ClusterFields) (s : ClusterStandsFor past old) where
  -- an event that was carried out
  pub played_next : (new : ClusterFields) (event : Event) (mark : Mark) (saved : Vec Record) → new.size ≡ old.size → saved.items ≡ last_saved new
      → ((liars : ℕ → Bool) (c : Scene) → IsSize old.size → IsSteady old.size liars c → IsCluster old.size liars c old.posts → IsTurn old.size liars c event mark (saved_among new.posts new.last) new.posts)
      → ClusterStandsFor (and_then past event mark saved) new
  unfolding last_saved
  played_next new event mark saved same is turns =
      let turn = subst (λ (z : Size). (liars : ℕ → Bool) (c : Scene) → IsSize z → IsSteady z liars c → IsCluster z liars c old.posts → IsTurn z liars c event mark (saved_among new.posts new.last) new.posts)
      s.size_is turns past.liars s.followed.last s.lawful (steady_now past old s) s.followed.at in
      played_on past old new event mark saved s same
      (subst (λ (l : List Record). IsTurn past.size past.liars s.followed.last event mark l new.posts) (sym is) turn)

  -- one that wasn't
  pub refused : (fault : SimFault) → ((liars : ℕ → Bool) (c : Scene) → IsSize old.size → IsSteady old.size liars c → IsCluster old.size liars c old.posts → fault ≡ faults.Memory)
      → fault ≡ faults.Memory
  refused fault never =
      subst (λ (z : Size). (liars : ℕ → Bool) (c : Scene) → IsSize z → IsSteady z liars c → IsCluster z liars c old.posts → fault ≡ faults.Memory)
      s.size_is never past.liars s.followed.last s.lawful (steady_now past old s) s.followed.at

-- what was saved last is not too much for a list
pub few_saved : (cluster : ClusterFields) → length (saved_among cluster.posts cluster.last) < 2 ^ 63 → length (last_saved cluster) < 2 ^ 63
unfolding last_saved
few_saved cluster h = h

-- a cluster that was opened
pub stands_first : (size : Size) (liars : List ℕ) (fused : ℕ → Bool) (cluster : ClusterFields) → IsSize size → AreLiars size liars → cluster.size ≡ size
    → IsCluster size (among liars) (opening fused) cluster.posts → ClusterStandsFor (unplayed size (among liars) fused) cluster
stands_first size liars fused cluster lawful are same at = record {
  lawful = lawful;
  few = few_lie size liars are;
  size_is = same;
  followed = none_followed size (among liars) (opening fused) cluster.posts at;
}

-- the posts are what the last scene has
pub at_last : (past : Played) (cluster : ClusterFields) (s : ClusterStandsFor past cluster) → IsCluster cluster.size past.liars s.followed.last cluster.posts
at_last past cluster s = subst (λ (z : Size). IsCluster z past.liars s.followed.last cluster.posts) (sym s.size_is) s.followed.at

-- the verdicts of a cluster
module _ (past : Played) (cluster : ClusterFields) (verdicts : List Verdict) (s : ClusterStandsFor past cluster) (are : verdicts ≡ verdicts_of cluster.size past.liars s.followed.last.world) where
  pub simulated_so : IsSimulation past.size past.liars past.fused past.script past.marks past.saved verdicts
  simulated_so =
      let f = s.followed in
      record {
        steps = f.steps;
        last = f.last;
        run = f.run;
        world_is = f.world_is;
        is_run = f.is_run;
        verdicts_are = are ∙ ap (λ (z : Size). verdicts_of z past.liars f.last.world) s.size_is;
      }

  pub agree_so : EveryRun Agree → HaveOneBit verdicts
  agree_so = simulations_agree past.size past.liars past.fused past.script past.marks past.saved verdicts s.lawful s.few simulated_so

  pub unanimous_so : EveryRun Unanimous → AreUnanimous past.script past.marks verdicts
  unanimous_so = simulations_unanimous past.size past.liars past.fused past.script past.marks past.saved verdicts s.lawful s.few simulated_so
