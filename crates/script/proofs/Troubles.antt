-- What is owed is made: each crash of a line `fair K` has its restart.
use Rattle.std.proofs.Common.{ℕ, zero, suc, ◌≡◌, ◌+◌, ◌*◌, ◌-◌, ◌<◌, ◌≤◌, refl, sym, ap, ◌∙◌, subst, arith, inl, inr, Bool, true, false, nat_lt, ◌==◌, if◌then◌else◌, eqb-true, eq-eqb, Option, Some, None, List, [], ◌∷◌, ◌++◌, map, append_assoc, append-nil, slice_get, rules, tests}
use Rattle.std.proofs.lemmas.List.{map-append}
use Rattle.std.proofs.lemmas.Nat.{mod_below}
use Rattle.rand_chacha.specs.ChaCha.{ChaCha, next_word}
use Rattle.terms_prelude.specs.Terms.{Size}
use Rattle.script.specs.declared.fair.Link.{Link}
use Rattle.script.specs.declared.fair.Trouble.{Trouble}
use Rattle.script.specs.declared.fair.Sort.{Sort}
use Rattle.script.specs.declared.fair.Sort.TheVariants as sort
use Rattle.disk.specs.declared.Pick.{Pick}
use Rattle.script.specs.Acts.{Act, TossedAct, takes_toss}
use Rattle.script.specs.Acts.Act.{Deliver, DeliverAll, Crash, Restart}
use Rattle.sim.specs.declared.events.Which.TheVariants.{Next}
use Rattle.script.specs.Drawing.{below, toss}
use Rattle.script.specs.Drawing.{tossed, calls, pick}
use Rattle.script.specs.Fair.{event, deal, one_of}
use Rattle.script.specs.Fair.{Cast, Network, fresh, due_or_drawn, drawn_event, filled, has_some, of_sort, on_link, sort_of}
use Rattle.script.specs.Making.{add, add_fair}
use Rattle.script.specs.Making.{Made, cast_of, fairs}
use Rattle.script.specs.FairLines.{HasRestart, fair_acts}
use Rattle.script.proofs.Deciding.{less_or}

-- the acts of so many events, in turn
abbrev acts : Cast → ℕ → Network → ChaCha → List Act
acts cast zero network g = []
acts cast (suc k) network g =
    (event cast (suc k) network g).0.0
    ∷ acts cast k (event cast (suc k) network g).0.1 (tossed (event cast (suc k) network g).0.0 (event cast (suc k) network g).1).1

abbrev only_act : TossedAct → Act
only_act event = event.act

abbrev with_toss : Act → Option ℕ → TossedAct
with_toss act drawn = record { act = act; toss = drawn }

abbrev act_in : TossedAct × ChaCha → Act
act_in drawn = drawn.0.act

tossed_keeps : (act : Act) (g : ChaCha) → (tossed act g).0.act ≡ act
tossed_keeps act g = step (takes_toss act) (toss g).0 (toss g).1
  where
    step : (b : Bool) (r : ℕ) (h : ChaCha) → act_in (if b then (with_toss act (Some r), h) else (with_toss act None, g)) ≡ act
    step true r h = refl
    step false r h = refl

-- the acts are those of the events
acts_are : (cast : Cast) (k : ℕ) (network : Network) (made : Made)
    → map only_act (fairs cast k network made).events ≡ map only_act made.events ++ acts cast k network made.stream
unfolding add_fair add
acts_are cast zero network made = sym (append-nil (map only_act made.events))
acts_are cast (suc k) network made =
    let drawn = event cast (suc k) network made.stream in
    let next : Made = add drawn.0.0 (record { events = made.events; stream = drawn.1 }) in
    let rest : List Act = acts cast k drawn.0.1 next.stream in
    acts_are cast k drawn.0.1 next
    ∙ (ap (λ (l : List Act). l ++ rest) (map-append only_act made.events ((tossed drawn.0.0 drawn.1).0 ∷ []))
    ∙ (append_assoc (map only_act made.events) (only_act (tossed drawn.0.0 drawn.1).0 ∷ []) rest
    ∙ ap (λ (a : Act). map only_act made.events ++ (a ∷ rest)) (tossed_keeps drawn.0.0 drawn.1)))

-- whether it is a crash
is_crash : Act → Bool
is_crash (Crash member its_pick) = true
is_crash act = false

on_link_is_none : (link : Link) (g : ChaCha) → is_crash (on_link link g).0 ≡ false
unfolding is_crash
on_link_is_none link g = step (nat_lt (below 288 g).0 256) (below 288 g).0
  where
    step : (b : Bool) (more : ℕ) → is_crash (if b then DeliverAll link.from link.to (more + 1) else Deliver link.from link.to Next) ≡ false
    step true more = refl
    step false more = refl

-- no drawn event is a crash
drawn_is_none : (cast : Cast) (left : ℕ) (network : Network) (s : Sort) (g : ChaCha) → is_crash (of_sort cast left network s g).0.0 ≡ false
unfolding is_crash
drawn_is_none cast left network sort.Trouble g = refl
drawn_is_none cast left network sort.Lie g = refl
drawn_is_none cast left network sort.Proposal g = refl
drawn_is_none cast left network sort.Delivery g =
    on_link_is_none (deal (filled cast.correct network.deck) g).0.0 (deal (filled cast.correct network.deck) g).1

no_crash : (act : Act) (member : ℕ) (its_pick : Pick) → is_crash act ≡ false → act ≡ Crash member its_pick → ⊥
unfolding is_crash
no_crash act member its_pick none e = let f : is_crash act ≡ true = ap is_crash e in cc

-- trouble is of no other sort, and only where all is quiet
no_trouble : (n kind : ℕ) (lying : Bool) → sort_of n kind false lying ≡ sort.Trouble → ⊥
no_trouble n kind lying = step (kind == 0) (kind == 1) (nat_lt n kind) lying
  where
    step : (a b c d : Bool)
        → (if a then (if false then sort.Trouble else sort.Delivery) else (if b then sort.Proposal else (if c then sort.Delivery else (if d then sort.Lie else sort.Delivery)))) ≡ sort.Trouble
        → ⊥
    step true b c d e = cc
    step false true c d e = cc
    step false false true d e = cc
    step false false false true e = cc
    step false false false false e = cc

owed_stays : (cast : Cast) (left : ℕ) (network : Network) (s : Sort) (g : ChaCha) → (s ≡ sort.Trouble → ⊥)
    → (of_sort cast left network s g).0.1.owed ≡ network.owed
owed_stays cast left network sort.Trouble g isnt = absurd (isnt refl)
owed_stays cast left network sort.Lie g isnt = refl
owed_stays cast left network sort.Proposal g isnt = refl
owed_stays cast left network sort.Delivery g isnt = refl

-- what is owed comes before the line's end, and the restart soon behind the crash
abbrev Fits : Cast → ℕ → Option Trouble → Type 0
Fits cast left None = Unit {0}
Fits cast left (Some t) = (has_some cast.correct ≡ true) × (t.restart < t.crash) × (t.crash ≤ t.restart + 50) × (1 ≤ t.restart) × (t.restart ≤ left)

abbrev owing : List Link → Trouble → Network
owing deck t = record { deck = deck; owed = Some t }

abbrev opens : ℕ → Trouble → Bool → Bool → Option Act
opens left t a b = if a then Some (Crash t.member t.pick) else (if b then Some (Restart t.member) else None)

module _ (cast : Cast) (left : ℕ) (deck : List Link) (t : Trouble) (g : ChaCha) where
  drawn_owes : (drawn_event cast left (owing deck t) g).0.1.owed ≡ Some t
  drawn_owes =
      owed_stays cast left (owing deck t) (sort_of cast.size.n (below (16 * cast.size.n) g).0 false (has_some cast.liars)) (below (16 * cast.size.n) g).1
      (no_trouble cast.size.n (below (16 * cast.size.n) g).0 (has_some cast.liars))

  kept : (b : Bool) → (left == t.restart) ≡ b → t.restart < left → (if b then None else Some t) ≡ Some t
  kept true e h = let f : left ≡ t.restart = eqb-true left t.restart e in absurd (omega (arith, f, h))
  kept false e h = refl

  -- before its restart, what is owed stays owed
  stays_owed : has_some cast.correct ≡ true → t.restart < left → (event cast left (owing deck t) g).0.1.owed ≡ Some t
  unfolding event
  stays_owed has h = run (has_some cast.correct) has
    where
      at : (a b : Bool) → (left == t.restart) ≡ b → (due_or_drawn cast left (owing deck t) (opens left t a b) g).0.1.owed ≡ Some t
      at true b e = kept (left == t.restart) refl h
      at false true e = kept (left == t.restart) refl h
      at false false e = drawn_owes

      run : (b : Bool) → b ≡ true
          → ((if b then due_or_drawn cast left (owing deck t) (opens left t (left == t.crash) (left == t.restart)) else (λ (h : ChaCha). ((Restart 0, owing deck t), h))) g).0.1.owed ≡ Some t
      run true e = at (left == t.crash) (left == t.restart) refl
      run false e = cc

  -- at its restart the member is opened
  is_opened : has_some cast.correct ≡ true → t.restart < t.crash → left ≡ t.restart → (event cast left (owing deck t) g).0.0 ≡ Restart t.member
  unfolding event
  is_opened has h now = run (has_some cast.correct) has
    where
      at : (a b : Bool) → (left == t.crash) ≡ a → (left == t.restart) ≡ b → (due_or_drawn cast left (owing deck t) (opens left t a b) g).0.0 ≡ Restart t.member
      at true b e f = let i : left ≡ t.crash = eqb-true left t.crash e in absurd (omega (arith, i, h, now))
      at false true e f = refl
      at false false e f = let i : (left == t.restart) ≡ true = eq-eqb left t.restart now in cc

      run : (b : Bool) → b ≡ true
          → ((if b then due_or_drawn cast left (owing deck t) (opens left t (left == t.crash) (left == t.restart)) else (λ (h : ChaCha). ((Restart 0, owing deck t), h))) g).0.0 ≡ Restart t.member
      run true e = at (left == t.crash) (left == t.restart) refl refl
      run false e = cc

  -- and nothing is owed any more
  is_over : has_some cast.correct ≡ true → t.restart < t.crash → left ≡ t.restart → (event cast left (owing deck t) g).0.1.owed ≡ None
  unfolding event
  is_over has h now = run (has_some cast.correct) has
    where
      gone : (b : Bool) → (left == t.restart) ≡ b → (if b then None else Some t) ≡ None
      gone true f = refl
      gone false f = let i : (left == t.restart) ≡ true = eq-eqb left t.restart now in cc

      at : (a b : Bool) → (left == t.crash) ≡ a → (left == t.restart) ≡ b → (due_or_drawn cast left (owing deck t) (opens left t a b) g).0.1.owed ≡ None
      at true b e f = gone (left == t.restart) refl
      at false true e f = gone (left == t.restart) refl
      at false false e f = let i : (left == t.restart) ≡ true = eq-eqb left t.restart now in cc

      run : (b : Bool) → b ≡ true
          → ((if b then due_or_drawn cast left (owing deck t) (opens left t (left == t.crash) (left == t.restart)) else (λ (h : ChaCha). ((Restart 0, owing deck t), h))) g).0.1.owed ≡ None
      run true e = at (left == t.crash) (left == t.restart) refl refl
      run false e = cc

-- the restart comes at its event
restarts : (cast : Cast) (k : ℕ) (deck : List Link) (t : Trouble) (g : ChaCha) → Fits cast k (Some t)
    → slice_get (acts cast k (owing deck t) g) (k - t.restart) ≡ Some (Restart t.member)
restarts cast zero deck t g (has, before, soon, some, within) = absurd (omega (arith, some, within))
restarts cast (suc k) deck t g (has, before, soon, some, within) =
    elim (less_or t.restart (suc k)) [
      | inl more ↦
          let next = event cast (suc k) (owing deck t) g in
          let stays = stays_owed cast (suc k) deck t g has more in
          let index : suc k - t.restart ≡ suc (k - t.restart) = omega (arith, more) in
          let later : t.restart ≤ k = omega (arith, more) in
          let there = restarts cast k next.0.1.deck t (tossed next.0.0 next.1).1 (has, before, soon, some, later) in
          subst (λ (i : ℕ). slice_get (acts cast (suc k) (owing deck t) g) i ≡ Some (Restart t.member)) (sym index)
          (subst
          (λ (o : Option Trouble).
          slice_get (acts cast k (record { deck = next.0.1.deck; owed = o }) (tossed next.0.0 next.1).1) (k - t.restart) ≡ Some (Restart t.member))
          (sym stays) there)
      | inr less ↦
          let now : suc k ≡ t.restart = omega (arith, within, less) in
          let index : suc k - t.restart ≡ 0 = omega (arith, now) in
          subst (λ (i : ℕ). slice_get (acts cast (suc k) (owing deck t) g) i ≡ Some (Restart t.member)) (sym index)
          (ap (λ (a : Act). Some a) (is_opened cast (suc k) deck t g has before now))
    ]

-- the member whose crash is owed now
record IsOwed (left : ℕ) (owed : Option Trouble) (member : ℕ) : Type 0 where
  pub trouble : Trouble
  pub owed_is : owed ≡ Some trouble
  pub now : left ≡ trouble.crash
  pub its : trouble.member ≡ member

-- a crash is one that is owed
crash_is_owed : (cast : Cast) (left : ℕ) (deck : List Link) (o : Option Trouble) (g : ChaCha) (member : ℕ) (its_pick : Pick)
    → (event cast left (record { deck = deck; owed = o }) g).0.0 ≡ Crash member its_pick → IsOwed left o member
unfolding event
crash_is_owed cast left deck None g member its_pick = run (has_some cast.correct)
  where
    drawn : (drawn_event cast left (record { deck = deck; owed = None }) g).0.0 ≡ Crash member its_pick → ⊥
    drawn e =
        no_crash (drawn_event cast left (record { deck = deck; owed = None }) g).0.0 member its_pick
        (drawn_is_none cast left (record { deck = deck; owed = None }) (sort_of cast.size.n (below (16 * cast.size.n) g).0 (nat_lt 100 left) (has_some cast.liars)) (below (16 * cast.size.n) g).1) e

    run : (b : Bool)
        → ((if b then drawn_event cast left (record { deck = deck; owed = None }) else (λ (h : ChaCha). ((Restart 0, record { deck = deck; owed = None }), h))) g).0.0 ≡ Crash member its_pick
        → IsOwed left None member
    run true e = absurd (drawn e)
    run false e = let f : Restart 0 ≡ Crash member its_pick = e in cc
crash_is_owed cast left deck (Some t) g member its_pick = run (has_some cast.correct)
  where
    drawn : (drawn_event cast left (owing deck t) g).0.0 ≡ Crash member its_pick → ⊥
    drawn e =
        no_crash (drawn_event cast left (owing deck t) g).0.0 member its_pick
        (drawn_is_none cast left (owing deck t) (sort_of cast.size.n (below (16 * cast.size.n) g).0 false (has_some cast.liars)) (below (16 * cast.size.n) g).1) e

    at : (a b : Bool) → (left == t.crash) ≡ a → (due_or_drawn cast left (owing deck t) (opens left t a b) g).0.0 ≡ Crash member its_pick
        → IsOwed left (Some t) member
    at true b h e =
        let f : Crash t.member t.pick ≡ Crash member its_pick = e in
        let i : t.member ≡ member = cc in
        record { trouble = t; owed_is = refl; now = eqb-true left t.crash h; its = i }
    at false true h e = let f : Restart t.member ≡ Crash member its_pick = e in cc
    at false false h e = absurd (drawn e)

    run : (b : Bool)
        → ((if b then due_or_drawn cast left (owing deck t) (opens left t (left == t.crash) (left == t.restart)) else (λ (h : ChaCha). ((Restart 0, owing deck t), h))) g).0.0 ≡ Crash member its_pick
        → IsOwed left (Some t) member
    run true e = at (left == t.crash) (left == t.restart) refl e
    run false e = let f : Restart 0 ≡ Crash member its_pick = e in cc

below_less : (bound : ℕ) (g : ChaCha) → 0 < bound → (below bound g).0 < bound
unfolding below
below_less bound g h = mod_below (next_word 10 g).0 bound h

-- what a trouble owes comes before the line's end
trouble_fits : (cast : Cast) (k : ℕ) (network : Network) (g : ChaCha) → has_some cast.correct ≡ true → 100 < suc k
    → Fits cast k (of_sort cast (suc k) network sort.Trouble g).0.1.owed
trouble_fits cast k network g has room =
    let h : ChaCha = (pick (calls (one_of cast.correct g).1).1).1 in
    let early = below_less 50 h (omega arith) in
    let late = below_less 50 (below 50 h).1 (omega arith) in
    (has, omega (arith, early, late, room), omega (arith, early, late, room), omega (arith, early, late, room), omega (arith, early, late, room))

drawn_fits : (cast : Cast) (k : ℕ) (deck : List Link) (s : Sort) (g : ChaCha) → has_some cast.correct ≡ true → (s ≡ sort.Trouble → 100 < suc k)
    → Fits cast k (of_sort cast (suc k) (record { deck = deck; owed = None }) s g).0.1.owed
drawn_fits cast k deck sort.Trouble g has room = trouble_fits cast k (record { deck = deck; owed = None }) g has (room refl)
drawn_fits cast k deck sort.Lie g has room = tt
drawn_fits cast k deck sort.Proposal g has room = tt
drawn_fits cast k deck sort.Delivery g has room = tt

-- trouble comes where all is quiet
trouble_is_quiet : (n left kind : ℕ) (lying : Bool) → sort_of n kind (nat_lt 100 left) lying ≡ sort.Trouble → 100 < left
trouble_is_quiet n left kind lying = step (nat_lt 100 left) refl
  where
    step : (b : Bool) → nat_lt 100 left ≡ b → sort_of n kind b lying ≡ sort.Trouble → 100 < left
    step true e h = search (rules, tests, e)
    step false e h = absurd (no_trouble n kind lying h)

-- what is owed behind an event fits
fits_next : (cast : Cast) (k : ℕ) (deck : List Link) (o : Option Trouble) (g : ChaCha) → Fits cast (suc k) o
    → Fits cast k (event cast (suc k) (record { deck = deck; owed = o }) g).0.1.owed
unfolding event
fits_next cast k deck None g fits = run (has_some cast.correct) refl
  where
    run : (b : Bool) → has_some cast.correct ≡ b
        → Fits cast k ((if b then drawn_event cast (suc k) (record { deck = deck; owed = None }) else (λ (h : ChaCha). ((Restart 0, record { deck = deck; owed = None }), h))) g).0.1.owed
    run true e =
        drawn_fits cast k deck (sort_of cast.size.n (below (16 * cast.size.n) g).0 (nat_lt 100 (suc k)) (has_some cast.liars)) (below (16 * cast.size.n) g).1 e
        (trouble_is_quiet cast.size.n (suc k) (below (16 * cast.size.n) g).0 (has_some cast.liars))
    run false e = tt
fits_next cast k deck (Some t) g (has, before, soon, some, within) =
    elim (less_or t.restart (suc k)) [
      | inl more ↦
          let later : t.restart ≤ k = omega (arith, more) in
          subst (λ (o : Option Trouble). Fits cast k o) (sym (stays_owed cast (suc k) deck t g has more)) (has, before, soon, some, later)
      | inr less ↦
          let now : suc k ≡ t.restart = omega (arith, within, less) in
          subst (λ (o : Option Trouble). Fits cast k o) (sym (is_over cast (suc k) deck t g has before now)) tt
    ]

-- behind a crash comes the restart
follows : (cast : Cast) (k : ℕ) (network : Network) (g : ChaCha) → Fits cast k network.owed → (i member : ℕ) (its_pick : Pick)
    → slice_get (acts cast k network g) i ≡ Some (Crash member its_pick) → HasRestart (acts cast k network g) i member
follows cast zero network g fits i member its_pick e = let f : ◌≡◌ {A = Option Act} None (Some (Crash member its_pick)) = e in cc
follows cast (suc k) network g fits zero member its_pick e =
    let f : ◌≡◌ {A = Option Act} (Some (event cast (suc k) network g).0.0) (Some (Crash member its_pick)) = e in
    let is : (event cast (suc k) network g).0.0 ≡ Crash member its_pick = cc in
    let owed = crash_is_owed cast (suc k) network.deck network.owed g member its_pick is in
    let t : Trouble = owed.trouble in
    let now : suc k ≡ t.crash = owed.now in
    let its : Fits cast (suc k) (Some t) = subst (λ (o : Option Trouble). Fits cast (suc k) o) owed.owed_is fits in
    let there = restarts cast (suc k) network.deck t g its in
    record {
      later = suc k - t.restart;
      behind = omega (arith, now, its.1, its.4);
      soon = omega (arith, now, its.2, its.4);
      there = subst
          (λ (o : Option Trouble). slice_get (acts cast (suc k) (record { deck = network.deck; owed = o }) g) (suc k - t.restart) ≡ Some (Restart member))
          (sym owed.owed_is) (there ∙ ap (λ (m : ℕ). Some (Restart m)) owed.its);
    }
follows cast (suc k) network g fits (suc i) member its_pick e =
    let next = event cast (suc k) network g in
    let found = follows cast k next.0.1 (tossed next.0.0 next.1).1 (fits_next cast k network.deck network.owed g fits) i member its_pick e in
    record { later = suc found.later; behind = omega (arith, found.behind); soon = omega (arith, found.soon); there = found.there }

-- each crash of a line has its restart
pub restart_follows : (size : Size) (correct : List ℕ) (k i member : ℕ) (its_pick : Pick) (stream : ChaCha)
    → slice_get (fair_acts size correct k stream) i ≡ Some (Crash member its_pick) → HasRestart (fair_acts size correct k stream) i member
restart_follows size correct k i member its_pick stream e =
    let same : fair_acts size correct k stream ≡ acts (cast_of size correct) k fresh stream =
    acts_are (cast_of size correct) k fresh (record { events = []; stream = stream }) in
    subst (λ (l : List Act). HasRestart l i member) (sym same)
    (follows (cast_of size correct) k fresh stream tt i member its_pick
    (subst (λ (l : List Act). slice_get l i ≡ Some (Crash member its_pick)) same e))
