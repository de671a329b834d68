-- What changes of its lists do to the words of a `Broadcasts`.
use Rattle.std.proofs.Common.{ℕ, ◌≡◌, ◌+◌, ◌*◌, ◌<◌, Bool, true, false, cond, ◌&&◌, eqb, leb, refl, sym, ap, ◌∙◌, Option, Some, None, is_some}
use Rattle.terms_prelude.specs.Terms.{Kind, Initial, Echo, Ready, Place, Size, Value, Statement, count_below, keep_or, given, FitsStep, value_is, kind_eq, new_place}
use Rattle.terms.proofs.Same.{kind_eq-true}
use Rattle.rbc.specs.Words.{Known, Broadcasts, same_spot, is_at, is_third, no_known, value_known, voted_known, is_reached, heard_known, said_known, say_known, accepted_known, has_spot, spot_of, known_in, touched_known, broadcasts_size, broadcasts_me, broadcasts_got, broadcasts_accepted, broadcasts_said}
use Rattle.rbc.proofs.Cells.{step_same, known_in-spot}
use Rattle.votes.specs.Votes.{fits}
use Rattle.votes.proofs.Sent.{keep_None}
use Rattle.rbc.proofs.Votes.{and_true, and_false, fits_step, voted_value, heard_value, heard_said, fitting_given, said_value, said_accepted, said_echo, said_ready, no_value, no_said}

-- all words are the same
pub record IsSame (b b' : Broadcasts) : Type 0 where
  pub size : broadcasts_size b' ≡ broadcasts_size b
  pub me : broadcasts_me b' ≡ broadcasts_me b
  pub got : (a : ℕ) (kind : Kind) (place : Place) → broadcasts_got b' a kind place ≡ broadcasts_got b a kind place
  pub accepted : (place : Place) → broadcasts_accepted b' place ≡ broadcasts_accepted b place
  pub said : (kind : Kind) (place : Place) → broadcasts_said b' kind place ≡ broadcasts_said b kind place

-- how many members sent that value as a Ready
abbrev pub readies : Broadcasts → Place → Value → ℕ
readies b place m = count_below (broadcasts_size b).n (λ a. value_is (broadcasts_got b a Ready place) m)

-- the value of the statement, if it is a Ready at that spot and an accept set sent it
abbrev pub reached_by : Broadcasts → Statement → Place → Option Value
reached_by b s place =
    given (is_at s Ready place && leb (2 * (broadcasts_size b).t + 1) (readies b place s.value)) s.value

-- the words after one more statement from that sender, which is news
pub record HearsOne (b b' : Broadcasts) (from : ℕ) (s : Statement) : Type 0 where
  pub size : broadcasts_size b' ≡ broadcasts_size b
  pub me : broadcasts_me b' ≡ broadcasts_me b
  pub got : (a : ℕ) (kind : Kind) (place : Place)
      → broadcasts_got b' a kind place ≡ keep_or (broadcasts_got b a kind place) (given (eqb from a && is_at s kind place) s.value)
  pub accepted : (place : Place) → broadcasts_accepted b' place ≡ keep_or (broadcasts_accepted b place) (reached_by b' s place)
  pub said : (kind : Kind) (place : Place) → broadcasts_said b' kind place ≡ broadcasts_said b kind place

-- what is said as that kind after the statement
abbrev pub said_with : Broadcasts → Statement → Kind → Place → Option Value
said_with b s kind place = keep_or (broadcasts_said b kind place) (given (is_at s kind place) s.value)

-- the words after one more statement of its own
pub record SaysOne (b b' : Broadcasts) (s : Statement) : Type 0 where
  pub size : broadcasts_size b' ≡ broadcasts_size b
  pub me : broadcasts_me b' ≡ broadcasts_me b
  pub got : (a : ℕ) (kind : Kind) (place : Place) → broadcasts_got b' a kind place ≡ broadcasts_got b a kind place
  pub accepted : (place : Place) → broadcasts_accepted b' place ≡ broadcasts_accepted b place
  pub echoed : (place : Place) → broadcasts_said b' Echo place ≡ said_with b s Echo place
  pub readied : (place : Place) → broadcasts_said b' Ready place ≡ said_with b s Ready place

-- no value is there
pub is_None : {A : Type 0} (o : Option A) → is_some o ≡ false → o ≡ None
is_None None h = refl
is_None (Some x) h = cc

-- at places of one spot the values are read alike
value_spot : (p q : Place) → same_spot p q ≡ true → (known : Known) (a : ℕ) (kind : Kind)
    → value_known p known a kind ≡ value_known q known a kind
unfolding value_known
value_spot p q h known a kind =
    ap (λ n. value_known (new_place q.question q.origin q.round n) known a kind) (step_same p q h)

-- and change alike
heard_spot : (p q : Place) → same_spot p q ≡ true → (known : Known) (size : Size) (a : ℕ) (kind : Kind) (m : Value)
    → heard_known p known size a kind m ≡ heard_known q known size a kind m
unfolding value_known
heard_spot p q h known size a kind m =
    ap (λ n. heard_known (new_place q.question q.origin q.round n) known size a kind m) (step_same p q h)

-- what is known at a place after one more vote at that or another
module _ (q : Place) (old new : Known) (size : Size) (from : ℕ) (kind : Kind) (m : Value) (within : from < 64) where
  got_at : (t : Bool) → (t ≡ true → fits (is_third q) m ≡ true) → (t ≡ true → value_known q old from kind ≡ None)
      → new ≡ cond t (heard_known q old size from kind m) old → (a : ℕ) (k : Kind)
      → value_known q new a k ≡ keep_or (value_known q old a k) (given (eqb from a && (kind_eq kind k && t)) m)
  got_at true f n e a k =
      ap (λ (x : Known). value_known q x a k) e ∙ heard_value q q old size from kind m a k
      ∙ voted_value q old from kind m a k within (f refl) (n refl)
      ∙ ap (λ b. keep_or (value_known q old a k) (given (eqb from a && b) m)) (sym (and_true (kind_eq kind k)))
  got_at false f n e a k =
      ap (λ (x : Known). value_known q x a k) e
      ∙ sym (ap (λ b. keep_or (value_known q old a k) (given (eqb from a && b) m)) (and_false (kind_eq kind k))
      ∙ ap (λ b. keep_or (value_known q old a k) (given b m)) (and_false (eqb from a)) ∙ keep_None (value_known q old a k))

  accepted_at : (t : Bool) → (t ≡ true → fits (is_third q) m ≡ true) → new ≡ cond t (heard_known q old size from kind m) old
      → accepted_known q new ≡ keep_or (accepted_known q old) (given ((kind_eq kind Ready && t) && is_reached q new size m) m)
  accepted_at true f e =
      let same : (λ (b : ℕ). value_known q (voted_known old from kind m) b Ready) ≡ (λ (b : ℕ). value_known q new b Ready) =
      λ i b. (sym (heard_value q q old size from kind m b Ready) ∙ sym (ap (λ (x : Known). value_known q x b Ready) e)) i in
      ap (λ (x : Known). accepted_known q x) e
      ∙ fitting_given (is_third q) old.accepted (kind_eq kind Ready && is_reached q (voted_known old from kind m) size m) m (f refl)
      ∙ ap (λ (g : ℕ → Option Value). keep_or (accepted_known q old)
      (given (kind_eq kind Ready && leb (2 * size.t + 1) (count_below size.n (λ b. value_is (g b) m))) m)) same
      ∙ ap (λ t. keep_or (accepted_known q old) (given (t && is_reached q new size m) m)) (sym (and_true (kind_eq kind Ready)))
  accepted_at false f e =
      ap (λ (x : Known). accepted_known q x) e
      ∙ sym (ap (λ t. keep_or (accepted_known q old) (given (t && is_reached q new size m) m)) (and_false (kind_eq kind Ready))
      ∙ keep_None (accepted_known q old))

  said_at : (t : Bool) → new ≡ cond t (heard_known q old size from kind m) old → (k : Kind) → said_known new k ≡ said_known old k
  said_at true e k = ap (λ (x : Known). said_known x k) e ∙ heard_said q old size from kind m k
  said_at false e k = ap (λ (x : Known). said_known x k) e

module _ (b b' : Broadcasts) (same_size : b'.size ≡ b.size) (same_me : b'.me ≡ b.me) where
  -- what is known of a place
  abbrev old : Place → Known
  old q = known_in (touched_known b.cells) b.size.n q

  -- and after a change, in the old size
  abbrev new : Place → Known
  new q = known_in (touched_known b'.cells) b.size.n q

  in_new : (q : Place) → known_in (touched_known b'.cells) b'.size.n q ≡ new q
  in_new q = ap (λ (z : Size). known_in (touched_known b'.cells) z.n q) same_size

  -- the same is known of all places
  pub no_change : ((q : Place) → new q ≡ old q) → IsSame b b'
  unfolding broadcasts_size broadcasts_me broadcasts_got broadcasts_accepted broadcasts_said
  no_change h =
      let e : (q : Place) → known_in (touched_known b'.cells) b'.size.n q ≡ old q = λ q. in_new q ∙ h q in
      record {
        size = same_size;
        me = same_me;
        got = λ a kind place. ap (λ (x : Known). value_known place x a kind) (e place);
        accepted = λ place. ap (λ (x : Known). accepted_known place x) (e place);
        said = λ kind place. ap (λ (x : Known). said_known x kind) (e place);
      }

  -- the tables are the same
  pub nothing_more : ((spot : ℕ) → touched_known b'.cells spot ≡ touched_known b.cells spot) → IsSame b b'
  nothing_more h =
      no_change (λ q. ap (λ (x : Known). cond (has_spot b.size.n q) x no_known) (h (spot_of b.size.n q)))

  -- one more statement heard
  pub one_heard : (from : ℕ) (s : Statement) → from < 64 → FitsStep s.place.step s.value
      → is_some (broadcasts_got b from s.kind s.place) ≡ false
      → ((q : Place) → new q ≡ cond (same_spot s.place q) (heard_known s.place (old s.place) b.size from s.kind s.value) (old q))
      → HearsOne b b' from s
  unfolding broadcasts_size broadcasts_me broadcasts_got broadcasts_accepted broadcasts_said
  one_heard from s within fit fresh h =
      record {
        size = same_size;
        me = same_me;
        got = λ a kind place. ap (λ (x : Known). value_known place x a kind) (in_new place)
            ∙ got_at place (old place) (new place) b.size from s.kind s.value within (same_spot s.place place) (fits_at place) (none place) (at place) a kind;
        accepted = λ place. ap (λ (x : Known). accepted_known place x) (in_new place)
            ∙ accepted_at place (old place) (new place) b.size from s.kind s.value within (same_spot s.place place) (fits_at place) (at place)
            ∙ ap (λ (x : Known). keep_or (accepted_known place (old place))
            (given (is_at s Ready place && is_reached place x b.size s.value) s.value)) (sym (in_new place))
            ∙ ap (λ (z : Size). keep_or (accepted_known place (old place))
            (given (is_at s Ready place && is_reached place (known_in (touched_known b'.cells) b'.size.n place) z s.value) s.value)) (sym same_size);
        said = λ kind place. ap (λ (x : Known). said_known x kind) (in_new place)
            ∙ said_at place (old place) (new place) b.size from s.kind s.value within (same_spot s.place place) (at place) kind;
      }
    where
      fits_at : (q : Place) → same_spot s.place q ≡ true → fits (is_third q) s.value ≡ true
      fits_at q t = ap (λ n. fits (eqb n 3) s.value) (sym (step_same s.place q t)) ∙ fits_step s.place s.value fit

      none : (q : Place) → same_spot s.place q ≡ true → value_known q (old q) from s.kind ≡ None
      none q t = sym (value_spot s.place q t (old q) from s.kind)
          ∙ ap (λ (x : Known). value_known s.place x from s.kind) (sym (known_in-spot (touched_known b.cells) b.size.n s.place q t)) ∙ is_None _ fresh

      at : (q : Place) → new q ≡ cond (same_spot s.place q) (heard_known q (old q) b.size from s.kind s.value) (old q)
      at q = h q ∙ step (same_spot s.place q) refl
        where
          step : (t : Bool) → same_spot s.place q ≡ t
              → cond t (heard_known s.place (old s.place) b.size from s.kind s.value) (old q)
              ≡ cond t (heard_known q (old q) b.size from s.kind s.value) (old q)
          step true e = heard_spot s.place q e (old s.place) b.size from s.kind s.value
              ∙ ap (λ (x : Known). heard_known q x b.size from s.kind s.value) (known_in-spot (touched_known b.cells) b.size.n s.place q e)
          step false e = refl

  -- one more statement said
  pub one_said : (s : Statement)
      → ((q : Place) → new q ≡ cond (same_spot s.place q) (say_known (old s.place) s.kind s.value) (old q))
      → SaysOne b b' s
  unfolding broadcasts_size broadcasts_me broadcasts_got broadcasts_accepted broadcasts_said
  one_said s h =
      record {
        size = same_size;
        me = same_me;
        got = λ a kind place. ap (λ (x : Known). value_known place x a kind) (in_new place ∙ at place)
            ∙ got_same place (same_spot s.place place) (old place) a kind;
        accepted = λ place. ap (λ (x : Known). accepted_known place x) (in_new place ∙ at place)
            ∙ accepted_same place (same_spot s.place place) (old place);
        echoed = λ place. ap (λ (x : Known). said_known x Echo) (in_new place ∙ at place)
            ∙ echoed_same (same_spot s.place place) (old place);
        readied = λ place. ap (λ (x : Known). said_known x Ready) (in_new place ∙ at place)
            ∙ readied_same (same_spot s.place place) (old place);
      }
    where
      at : (q : Place) → new q ≡ cond (same_spot s.place q) (say_known (old q) s.kind s.value) (old q)
      at q = h q ∙ step (same_spot s.place q) refl
        where
          step : (t : Bool) → same_spot s.place q ≡ t
              → cond t (say_known (old s.place) s.kind s.value) (old q) ≡ cond t (say_known (old q) s.kind s.value) (old q)
          step true e = ap (λ (x : Known). say_known x s.kind s.value) (known_in-spot (touched_known b.cells) b.size.n s.place q e)
          step false e = refl

      got_same : (place : Place) (t : Bool) (known : Known) (a : ℕ) (k : Kind)
          → value_known place (cond t (say_known known s.kind s.value) known) a k ≡ value_known place known a k
      got_same place true known a k = said_value place known s.kind s.value a k
      got_same place false known a k = refl

      accepted_same : (place : Place) (t : Bool) (known : Known)
          → accepted_known place (cond t (say_known known s.kind s.value) known) ≡ accepted_known place known
      accepted_same place true known = said_accepted place known s.kind s.value
      accepted_same place false known = refl

      echoed_same : (t : Bool) (known : Known) → said_known (cond t (say_known known s.kind s.value) known) Echo
          ≡ keep_or (said_known known Echo) (given (kind_eq s.kind Echo && t) s.value)
      echoed_same true known = said_echo known s.kind s.value
          ∙ ap (λ x. keep_or (said_known known Echo) (given x s.value)) (sym (and_true (kind_eq s.kind Echo)))
      echoed_same false known = sym (ap (λ x. keep_or (said_known known Echo) (given x s.value)) (and_false (kind_eq s.kind Echo))
          ∙ keep_None (said_known known Echo))

      readied_same : (t : Bool) (known : Known) → said_known (cond t (say_known known s.kind s.value) known) Ready
          ≡ keep_or (said_known known Ready) (given (kind_eq s.kind Ready && t) s.value)
      readied_same true known = said_ready known s.kind s.value
          ∙ ap (λ x. keep_or (said_known known Ready) (given x s.value)) (sym (and_true (kind_eq s.kind Ready)))
      readied_same false known = sym (ap (λ x. keep_or (said_known known Ready) (given x s.value)) (and_false (kind_eq s.kind Ready))
          ∙ keep_None (said_known known Ready))

-- an Initial says nothing more
pub initial_said : (b : Broadcasts) (s : Statement) → kind_eq s.kind Initial ≡ true → SaysOne b b s
initial_said b s h =
    let e : s.kind ≡ Initial = kind_eq-true s.kind Initial h in
    record {
      size = refl;
      me = refl;
      got = λ a kind place. refl;
      accepted = λ place. refl;
      echoed = λ place. sym (ap (λ (k : Kind). keep_or (broadcasts_said b Echo place) (given (kind_eq k Echo && same_spot s.place place) s.value)) e
          ∙ keep_None (broadcasts_said b Echo place));
      readied = λ place. sym (ap (λ (k : Kind). keep_or (broadcasts_said b Ready place) (given (kind_eq k Ready && same_spot s.place place) s.value)) e
          ∙ keep_None (broadcasts_said b Ready place));
    }

-- of a place of which nothing is known nothing was heard or said
module _ (b : Broadcasts) (place : Place) (nothing : touched_known b.cells (spot_of b.size.n place) ≡ no_known) where
  nothing_there : known_in (touched_known b.cells) b.size.n place ≡ no_known
  nothing_there = step (has_spot b.size.n place)
    where
      step : (t : Bool) → cond t (touched_known b.cells (spot_of b.size.n place)) no_known ≡ no_known
      step true = nothing
      step false = refl

  pub none_got : (a : ℕ) (kind : Kind) → broadcasts_got b a kind place ≡ None
  unfolding broadcasts_got
  none_got a kind = ap (λ (x : Known). value_known place x a kind) nothing_there ∙ no_value place a kind

  pub none_said : (kind : Kind) → broadcasts_said b kind place ≡ None
  unfolding broadcasts_said
  none_said kind = ap (λ (x : Known). said_known x kind) nothing_there ∙ no_said kind

  pub none_accepted : broadcasts_accepted b place ≡ None
  unfolding broadcasts_accepted
  none_accepted = ap (λ (x : Known). accepted_known place x) nothing_there
