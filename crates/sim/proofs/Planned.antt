-- What the tests of a plan say.
use Rattle.std.proofs.Common.{◌≡◌, ◌<◌, ◌+◌, ℕ, zero, suc, [], ◌∷◌, subst, Bool, true, false, not, cond, nat_lt, Option, Some, None, Result, Ok, Err, IfOk, List, length, get_or, refl, sym, ap, ◌∙◌, arith, ◌⊎◌, inl, inr}
use Rattle.std.proofs.lemmas.Bool.Decides.{nat_tests}
use Rattle.terms_prelude.specs.Terms.{Size, Record, Said, Decided, Statement, has_said, statement_eq, is_none, IsWellFormed}
use Rattle.terms.proofs.Same.{statement_eq-same}
use Rattle.rounds.specs.declared.tosses.Toss.{Toss}
use Rattle.wire.specs.Reading.{Rest}
use Rattle.world.specs.World.{World, has_sent}
use Rattle.member.specs.Readers.{member_is_stopped}
use Rattle.sim.specs.Words.{Which, Next, At, Event, Reason, Link, Delivery, Post, Instruction, Presence, Here, Down, Liar, IsPresenceAt, is_up, saved_in, nth_said, group_from, mine, Scene, plan_of, for_link, to_deliver, delivery_of, group_of, to_group, IsPost, IsCluster, CanBeDone, IsGroupFor, AreSaid, IsSteady}
use Rattle.sim.specs.declared.events.Event.TheVariants as events
use Rattle.sim.specs.declared.events.Reason.TheVariants as reasons
use Rattle.sim.specs.declared.tasks.Instruction.TheVariants as tasks
use Rattle.sim.proofs.Moves.{true_or_false}
use Rattle.sim.proofs.Groups.{or_true, all_in_group, group_some}

pub lt_is : (a b : ℕ) → a < b → nat_lt a b ≡ true
lt_is a b l = grind (arith, nat_tests)

-- a presence is up where the world has no batch in doubt
pub up_is : (size : Size) (p : ℕ) (w : World) (presence : Presence) → IsPresenceAt (mine size p) w presence → is_up presence ≡ is_none (w.doubt p)
up_is size p w (Here m) at = go (true_or_false (member_is_stopped m))
  where
    go : (member_is_stopped m ≡ true) ⊎ (member_is_stopped m ≡ false) → not (member_is_stopped m) ≡ is_none (w.doubt p)
    go (inl e) = ap not e ∙ sym (ap is_none ((at.down e).0.1))
    go (inr e) = ap not e ∙ sym (ap is_none ((at.up e).0))
up_is size p w (Down disk records) at = sym (ap is_none at.doubt)
up_is size p w Liar at = absurd at

-- it has what the world has
pub saved_is : (size : Size) (p : ℕ) (w : World) (presence : Presence) → IsPresenceAt (mine size p) w presence → saved_in presence ≡ w.journal p
saved_is size p w (Here m) at = at.records
saved_is size p w (Down disk records) at = at.saved
saved_is size p w Liar at = absurd at

-- a link over which something may come: its ends are correct, and the receiver is up
pub record IsOpen (size : Size) (liars : ℕ → Bool) (w : World) (from to : ℕ) : Type 0 where
  pub sender : from < size.n
  pub receiver : to < size.n
  pub honest : liars from ≡ false
  pub correct : liars to ≡ false
  pub up : is_none (w.doubt to) ≡ true

pub open_plan : {A : Type 0} (size : Size) (liars : ℕ → Bool) (w : World) (from to : ℕ) (plan : Result A Reason) → IsOpen size liars w from to → for_link size liars w from to plan ≡ plan
open_plan size liars w from to plan o = rw (lt_is from size.n o.sender, lt_is to size.n o.receiver, o.honest, o.correct, o.up) refl

-- a group that has a statement
pub some_group : (records : List Record) (place from to count : ℕ) (toss : Toss) (s : Statement) → nth_said records place ≡ Some s → 0 < count
    → to_group from to count toss (group_from records place count) ≡ Ok (to, tasks.DeliverAll from count toss)
some_group records place from to count toss s h l =
    let g = group_some records place count s h l in ap (λ (xs : List Statement). to_group from to count toss xs) g.1

-- and one that has none
pub no_group : (records : List Record) (place from to count : ℕ) (toss : Toss) → group_from records place count ≡ []
    → to_group from to count toss (group_from records place count) ≡ Err reasons.Nothing
no_group records place from to count toss h = ap (λ (xs : List Statement). to_group from to count toss xs) h

-- the post at an index
pub post_at : (size : Size) (liars : ℕ → Bool) (s : Scene) (posts : List Post) (i p : ℕ) (x : Post) → i ≡ p → x ≡ get_or posts i x → p < size.n → IsCluster size liars s posts → IsPost size liars s p x
post_at size liars s posts i p x e at l cluster =
    subst (λ (y : Post). IsPost size liars s p y) (sym (at ∙ ap (λ (j : ℕ). get_or posts j x) e)) (cluster p x l)

-- the tests of a link, in order
abbrev tested : {C : Type 0} → Bool → Bool → Bool → Bool → Bool → Result C Reason → Result C Reason
tested k l m n o plan = cond k (cond l (cond m (Err reasons.WrongSide) (cond n (Err reasons.WrongSide) (cond o plan (Err reasons.NotUp)))) (Err reasons.NoSuch)) (Err reasons.NoSuch)

-- nothing comes over a link of which no place is told, for that reason
pub closed_plan : {A B : Type 0} (size : Size) (liars : ℕ → Bool) (w : World) (from to : ℕ) (a : A) (reason : Reason) (plan : Result B Reason)
    → for_link size liars w from to (Ok a) ≡ Err reason → for_link size liars w from to plan ≡ Err reason
closed_plan {A} {B} size liars w from to a reason plan h = go (nat_lt from size.n) (nat_lt to size.n) (liars from) (liars to) (is_none (w.doubt to)) h
  where
    go : (k l m n o : Bool) → tested k l m n o (Ok a) ≡ Err reason → tested k l m n o plan ≡ Err reason
    go true true false false true e = cc
    go true true false false false e = let same : reasons.NotUp ≡ reason = cc in ap (λ (r : Reason). Err r) same
    go true true false true o e = let same : reasons.WrongSide ≡ reason = cc in ap (λ (r : Reason). Err r) same
    go true true true n o e = let same : reasons.WrongSide ≡ reason = cc in ap (λ (r : Reason). Err r) same
    go true false m n o e = let same : reasons.NoSuch ≡ reason = cc in ap (λ (r : Reason). Err r) same
    go false l m n o e = let same : reasons.NoSuch ≡ reason = cc in ap (λ (r : Reason). Err r) same

cond_ok : {A E : Type 0} (b : Bool) (x : Result A E) (e : E) (y : A) → cond b x (Err e) ≡ Ok y → (b ≡ true) × (x ≡ Ok y)
cond_ok true x e y h = (refl, h)
cond_ok false x e y h = cc

cond_no : {A E : Type 0} (b : Bool) (x : Result A E) (e : E) (y : A) → cond b (Err e) x ≡ Ok y → (b ≡ false) × (x ≡ Ok y)
cond_no true x e y h = cc
cond_no false x e y h = (refl, h)

below : (m n : ℕ) → nat_lt m n ≡ true → m < n
below m n h = grind (arith, nat_tests)

-- what is told of a link over which something may come
pub open_of : {A : Type 0} (size : Size) (liars : ℕ → Bool) (w : World) (from to : ℕ) (plan : Result A Reason) (a : A)
    → for_link size liars w from to plan ≡ Ok a → IsOpen size liars w from to × (plan ≡ Ok a)
open_of size liars w from to plan a h =
    let k = cond_ok (nat_lt from size.n) _ _ _ h in
    let l = cond_ok (nat_lt to size.n) _ _ _ k.1 in
    let m = cond_no (liars from) _ _ _ l.1 in
    let n = cond_no (liars to) _ _ _ m.1 in
    let o = cond_ok (is_none (w.doubt to)) _ _ _ n.1 in
    (record { sender = below from size.n k.0; receiver = below to size.n l.0; honest = m.0; correct = n.0; up = o.0 }, o.1)

-- what a place of such a link tells: the sender's records and the link's place, as the scene has them
pub record IsTold (size : Size) (liars : ℕ → Bool) (s : Scene) (from to place : ℕ) (sender : Post) : Type 0 where
  pub saved : saved_in sender.presence ≡ s.world.journal from
  pub place_is : place ≡ s.place from to
  pub may_come : IsOpen size liars s.world from to

pub told_of : (size : Size) (liars : ℕ → Bool) (s : Scene) (posts : List Post) (i from to place : ℕ) (sender : Post) → i ≡ from → sender ≡ get_or posts i sender → IsCluster size liars s posts
    → for_link size liars s.world from to (Ok (s.place from to)) ≡ Ok place → IsTold size liars s from to place sender
told_of size liars s posts i from to place sender e at cluster h =
    let o = open_of size liars s.world from to (Ok (s.place from to)) place h in
    let post = post_at size liars s posts i from sender e at o.0.sender cluster in
    let same : s.place from to ≡ place = cc in
    record {
      saved = saved_is size from s.world sender.presence (post.at o.0.honest);
      place_is = sym same;
      may_come = o.0;
    }

-- what is taken of the sender for a group is what the group brings
pub brought_is : (size : Size) (liars : ℕ → Bool) (s : Scene) (posts : List Post) (p from count : ℕ) (toss : Toss) (i j place : ℕ) (receiver sender : Post) {E : Type 0} (result : Result Delivery E)
    → IsCluster size liars s posts → p < size.n → CanBeDone size liars s p (tasks.DeliverAll from count toss)
    → i ≡ p → receiver ≡ get_or posts i receiver → j ≡ from → sender ≡ get_or posts j sender → ((d : Link) → place ≡ (get_or receiver.incoming.items from d).place)
    → IfOk result (λ group. group.statements.items ≡ group_from (saved_in sender.presence) place count)
    → IfOk result (λ group. group.place ≡ place + length group.statements.items)
    → IfOk result (IsGroupFor s p (tasks.DeliverAll from count toss))
brought_is size liars s posts p from count toss i j place receiver sender (Err e) cluster below fits ei ri ej sj at statements behind = tt
brought_is size liars s posts p from count toss i j place receiver sender (Ok group) cluster below fits ei ri ej sj at statements behind =
    let to_post = post_at size liars s posts i p receiver ei ri below cluster in
    let from_post = post_at size liars s posts j from sender ej sj fits.2 cluster in
    let any : Link = record { place = 0; size = size; end = Rest [] } in
    let place_is : place ≡ s.place from p = at any ∙ (to_post.links from any fits.2).place_is in
    let are : group.statements.items ≡ group_of s from p count =
    statements ∙ ap (λ (r : List Record). group_from r place count) (saved_is size from s.world sender.presence (from_post.at fits.1))
    ∙ ap (λ (k : ℕ). group_from (s.world.journal from) k count) place_is in
    (are, behind ∙ ap (λ (k : ℕ). k + length group.statements.items) place_is ∙ ap (λ (l : List Statement). s.place from p + length l) are)

up_of : (o : Option (List Record)) → is_none o ≡ true → o ≡ None
up_of None h = refl
up_of (Some x) h = cc

down_of : (o : Option (List Record)) → is_none o ≡ false → (batch : List Record) × (o ≡ Some batch)
down_of None h = cc
down_of (Some x) h = (x, refl)

pub nth_has : (records : List Record) (k : ℕ) (s : Statement) → nth_said records k ≡ Some s → has_said records s ≡ true
nth_has [] k s h = cc
nth_has (Said x ∷ rs) zero s h = let e : x ≡ s = cc in rw (e, statement_eq-same s) refl
nth_has (Said x ∷ rs) (suc k) s h = rw (nth_has rs k s h) (or_true (statement_eq x s))
nth_has (Decided q r b ∷ rs) k s h = nth_has rs k s h

-- a planned task fits
pub record IsRight (size : Size) (liars : ℕ → Bool) (c : Scene) (p : ℕ) (told : Instruction) : Type 0 where
  pub below : p < size.n
  pub fits : CanBeDone size liars c p told

right : (size : Size) (liars : ℕ → Bool) (c : Scene) (m : ℕ) (one : Instruction) (p : ℕ) (told : Instruction) → m < size.n → CanBeDone size liars c m one
    → ◌≡◌ {A = Result (ℕ × Instruction) Reason} (Ok (m, one)) (Ok (p, told)) → IsRight size liars c p told
right size liars c m one p told l fits h =
    let pair : ◌≡◌ {A = ℕ × Instruction} (m, one) (p, told) = cc in
    subst (λ (y : ℕ × Instruction). IsRight size liars c y.0 y.1) pair (record { below = l; fits = fits })

module _ (size : Size) (liars : ℕ → Bool) (c : Scene) (steady : IsSteady size liars c) (p : ℕ) (told : Instruction) where
  statement_right : (from to place : ℕ) (toss : Toss) (number : ℕ) → from < size.n → to < size.n → liars from ≡ false → liars to ≡ false → c.world.doubt to ≡ None
      → (o : Option Statement) → nth_said (c.world.journal from) number ≡ o → to_deliver from to place toss o ≡ Ok (p, told) → IsRight size liars c p told
  statement_right from to place toss number lf lt hf ht up None n h = cc
  statement_right from to place toss number lf lt hf ht up (Some s) n h =
      let sent = steady.said from s (record { member = lf; honest = hf }) (nth_has (c.world.journal from) number s n) in
      right size liars c to (tasks.Deliver from s place toss) p told lt ((ht, up), hf, lf, sent, steady.formed from s sent) h

  group_right : (from to count : ℕ) (toss : Toss) → from < size.n → to < size.n → liars from ≡ false → liars to ≡ false → c.world.doubt to ≡ None
      → (statements : List Statement) → to_group from to count toss statements ≡ Ok (p, told) → IsRight size liars c p told
  group_right from to count toss lf lt hf ht up [] h = cc
  group_right from to count toss lf lt hf ht up (s ∷ statements) h =
      let said : AreSaid size c from (group_of c from to count) =
      all_in_group (λ x. (has_sent c.world.sent from x ≡ true) × IsWellFormed size x) (c.world.journal from) (c.place from to) count (λ x has.
      let sent = steady.said from x (record { member = lf; honest = hf }) has in (sent, steady.formed from x sent)) in
      right size liars c to (tasks.DeliverAll from count toss) p told lt ((ht, up), hf, lf, said) h

  which_right : (from to : ℕ) (which : Which) (toss : Toss) → from < size.n → to < size.n → liars from ≡ false → liars to ≡ false → c.world.doubt to ≡ None
      → delivery_of (c.world.journal from) (c.place from to) from to which toss ≡ Ok (p, told) → IsRight size liars c p told
  which_right from to Next toss lf lt hf ht up h = statement_right from to (c.place from to + 1) toss (c.place from to) lf lt hf ht up _ refl h
  which_right from to (At number) toss lf lt hf ht up h = statement_right from to (c.place from to) toss number lf lt hf ht up _ refl h

  pub plan_right : (event : Event) → plan_of size liars c event ≡ Ok (p, told) → IsRight size liars c p told
  plan_right (events.Propose m q bit toss) h =
      let a = cond_ok (nat_lt q size.questions) _ _ _ h in
      let b = cond_ok (nat_lt m size.n) _ _ _ a.1 in
      let d = cond_no (liars m) _ _ _ b.1 in
      let e = cond_ok (is_none (c.world.doubt m)) _ _ _ d.1 in
      right size liars c m (tasks.Propose q bit toss) p told (below m size.n b.0) (d.0, up_of (c.world.doubt m) e.0) e.1
  plan_right (events.Deliver from to which toss) h =
      let o = open_of size liars c.world from to _ (p, told) h in
      which_right from to which toss o.0.sender o.0.receiver o.0.honest o.0.correct (up_of (c.world.doubt to) o.0.up) o.1
  plan_right (events.DeliverAll from to count toss) h =
      let o = open_of size liars c.world from to _ (p, told) h in
      group_right from to count toss o.0.sender o.0.receiver o.0.honest o.0.correct (up_of (c.world.doubt to) o.0.up) (group_of c from to count) o.1
  plan_right (events.LieBytes liar to bytes toss) h =
      let a = cond_ok (nat_lt liar size.n) _ _ _ h in
      let b = cond_ok (nat_lt to size.n) _ _ _ a.1 in
      let d = cond_ok (liars liar) _ _ _ b.1 in
      let e = cond_no (liars to) _ _ _ d.1 in
      let f = cond_ok (is_none (c.world.doubt to)) _ _ _ e.1 in
      right size liars c to (tasks.Lie liar toss) p told (below to size.n b.0) ((e.0, up_of (c.world.doubt to) f.0), d.0, below liar size.n a.0) f.1
  plan_right (events.Fuse m calls) h =
      let b = cond_ok (nat_lt m size.n) _ _ _ h in
      let d = cond_no (liars m) _ _ _ b.1 in
      right size liars c m (tasks.Fuse calls) p told (below m size.n b.0) d.0 d.1
  plan_right (events.Crash m pick) h =
      let b = cond_ok (nat_lt m size.n) _ _ _ h in
      let d = cond_no (liars m) _ _ _ b.1 in
      right size liars c m (tasks.Crash pick) p told (below m size.n b.0) d.0 d.1
  plan_right (events.Restart m) h =
      let b = cond_ok (nat_lt m size.n) _ _ _ h in
      let d = cond_no (liars m) _ _ _ b.1 in
      let e = cond_no (is_none (c.world.doubt m)) _ _ _ d.1 in
      right size liars c m tasks.Restart p told (below m size.n b.0) (d.0, down_of (c.world.doubt m) e.0) e.1
  plan_right (events.Reset from to) h =
      let a = cond_ok (nat_lt from size.n) _ _ _ h in
      let b = cond_ok (nat_lt to size.n) _ _ _ a.1 in
      right size liars c to (tasks.Reset from) p told (below to size.n b.0) (below from size.n a.0) b.1
