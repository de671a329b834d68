-- The verdicts are those of the world.
use Rattle.std.proofs.Common.{◌≡◌, ◌<◌, ◌+◌, ℕ, zero, suc, Bool, true, false, cond, List, [], ◌∷◌, ◌++◌, refl, sym, ap, subst, ◌∙◌, add-one, append-nil, append_assoc, length, drop, get_or, ◌&&◌, ◌||◌, ◌==◌, ◌⊎◌, Option, Some, None, eq-eqb}
use Rattle.terms_prelude.specs.Terms.{Size, Header, Record, Statement, Said, Decided, decided, has_decided}
use Rattle.sim.specs.Words.{Post, Presence, Here, Down, Liar, is_liar, saved_in, Scene, IsPost, Verdict, verdict_in, verdicts_below, verdicts_of_below, verdicts_of, HaveOneBit}
use Rattle.std.specs.Bool.{beq}
use Rattle.std.specs.List.{Contains}
use Rattle.std.proofs.Common.{arith, inl, inr}
use Rattle.std.proofs.Math.Seq.{drop-cons}
use Rattle.std.proofs.lemmas.List.Elements.{Contains-append_cases}
use Rattle.world.specs.Words.{World, Agree, Unanimous, AllPropose}
use Rattle.sim.proofs.Planned.{saved_is}

none_saved : (presence : Presence) → is_liar presence ≡ true → saved_in presence ≡ []
none_saved (Here m) h = cc
none_saved (Down disk records) h = cc
none_saved Liar h = refl

none_below : (questions p : ℕ) → verdicts_below questions p [] ≡ []
none_below zero p = refl
none_below (suc q) p = append-nil (verdicts_below q p []) ∙ none_below q p

-- what one post has decided
of_post : (size : Size) (liars : ℕ → Bool) (c : Scene) (p : ℕ) (post : Post) → IsPost size liars c p post
    → verdicts_below size.questions p (saved_in post.presence) ≡ cond (liars p) [] (verdicts_below size.questions p (c.world.journal p))
of_post size liars c p post is = go (liars p) refl
  where
    go : (b : Bool) → liars p ≡ b → verdicts_below size.questions p (saved_in post.presence) ≡ cond b [] (verdicts_below size.questions p (c.world.journal p))
    go true e = ap (λ (r : List Record). verdicts_below size.questions p r) (none_saved post.presence (is.side ∙ e)) ∙ none_below size.questions p
    go false e = ap (λ (r : List Record). verdicts_below size.questions p r) (saved_is size p c.world post.presence (is.at e))

pub verdicts_more : (size : Size) (liars : ℕ → Bool) (c : Scene) (p : ℕ) (post : Post) (questions me : ℕ) (records : List Record) (old new : List Verdict) → IsPost size liars c p post
    → me ≡ post.header.me → questions ≡ size.questions → records ≡ saved_in post.presence → old ≡ verdicts_of_below p size.questions liars c.world
    → new ≡ old ++ verdicts_below questions me records → new ≡ verdicts_of_below (p + 1) size.questions liars c.world
verdicts_more size liars c p post questions me records old new is number all saved before now =
    let mine : me ≡ p = number ∙ ap (λ (h : Header). h.me) is.header in
    now ∙ ap (λ (l : List Verdict). l ++ verdicts_below questions me records) before
    ∙ ap (λ (l : List Verdict). verdicts_of_below p size.questions liars c.world ++ l)
    (ap (λ (q : ℕ). verdicts_below q me records) all ∙ ap (λ (m : ℕ). verdicts_below size.questions m records) mine
    ∙ ap (λ (r : List Record). verdicts_below size.questions p r) saved ∙ of_post size liars c p post is)
    ∙ ap (λ (k : ℕ). verdicts_of_below k size.questions liars c.world) (sym (add-one p))

-- lists of records that decide the same have the same verdicts
pub same_below : (questions p : ℕ) (xs ys : List Record) → ((q : ℕ) → decided xs q ≡ decided ys q) → verdicts_below questions p xs ≡ verdicts_below questions p ys
same_below zero p xs ys same = refl
same_below (suc q) p xs ys same =
    ap (λ (l : List Verdict). l ++ verdict_in p q (decided xs q)) (same_below q p xs ys same)
    ∙ ap (λ (o : Option (ℕ × Bool)). verdicts_below q p ys ++ verdict_in p q o) (same q)

-- a statement decides nothing
pub without_said : (kept rest : List Record) (s : Statement) (q : ℕ) → decided (kept ++ Said s ∷ rest) q ≡ decided (kept ++ rest) q
without_said [] rest s q = refl
without_said (Said t ∷ kept) rest s q = without_said kept rest s q
without_said (Decided of round bit ∷ kept) rest s q = ap (λ (o : Option (ℕ × Bool)). cond (of == q) (Some (round, bit)) o) (without_said kept rest s q)

-- what is left of the records at an index
next_left : (records : List Record) (i : ℕ) (x : Record) → i < length records → x ≡ get_or records i x → drop i records ≡ x ∷ drop (i + 1) records
next_left records i x h is = rw add-one (drop-cons records i x h ∙ ap (λ (y : Record). y ∷ drop (suc i) records) (sym is))

-- a decision is kept
pub decision_kept : (kept now records : List Record) (i : ℕ) (x : Record) (q : ℕ) (all : Option (ℕ × Bool)) → i < length records → x ≡ get_or records i x
    → now ≡ kept ++ x ∷ [] → decided (kept ++ drop i records) q ≡ all → decided (now ++ drop (i + 1) records) q ≡ all
decision_kept kept now records i x q all h is kept_is before =
    ap (λ (l : List Record). decided (l ++ drop (i + 1) records) q) kept_is
    ∙ (ap (λ (l : List Record). decided l q) (append_assoc kept (x ∷ []) (drop (i + 1) records))
    ∙ (ap (λ (l : List Record). decided (kept ++ l) q) (sym (next_left records i x h is)) ∙ before))

-- a statement is left out
pub statement_left_out : (kept now records : List Record) (i : ℕ) (x : Record) (s : Statement) (q : ℕ) (all : Option (ℕ × Bool)) → i < length records → x ≡ get_or records i x → x ≡ Said s
    → now ≡ kept → decided (kept ++ drop i records) q ≡ all → decided (now ++ drop (i + 1) records) q ≡ all
statement_left_out kept now records i x s q all h is said kept_is before =
    ap (λ (l : List Record). decided (l ++ drop (i + 1) records) q) kept_is
    ∙ (sym (without_said kept (drop (i + 1) records) s q)
    ∙ (ap (λ (y : Record). decided (kept ++ y ∷ drop (i + 1) records) q) (sym said)
    ∙ (ap (λ (l : List Record). decided (kept ++ l) q) (sym (next_left records i x h is)) ∙ before)))

-- what a verdict says of the world
pub record Says (m : ℕ) (liars : ℕ → Bool) (w : World) (v : Verdict) : Type 0 where
  pub member : v.0 < m
  pub honest : liars v.0 ≡ false
  pub decision : decided (w.journal v.0) v.1 ≡ Some (v.2, v.3)

nothing_in : (v : Verdict) → Contains [] v → ⊥
nothing_in v h = let l = h.1 in absurd (omega (arith, l))

one_says : (p question : ℕ) (found : Option (ℕ × Bool)) (v : Verdict) → Contains (verdict_in p question found) v → (v.0 ≡ p) × (v.1 ≡ question) × (found ≡ Some (v.2, v.3))
one_says p question None v h = absurd (nothing_in v h)
one_says p question (Some decision) v (zero, l, e) = (sym (ap (λ (x : Verdict). x.0) e), sym (ap (λ (x : Verdict). x.1) e), ap (λ (x : Verdict). Some (x.2, x.3)) e)
one_says p question (Some decision) v (suc i, l, e) = absurd (omega (arith, l))

below_says : (questions p : ℕ) (records : List Record) (v : Verdict) → Contains (verdicts_below questions p records) v → (v.0 ≡ p) × (decided records v.1 ≡ Some (v.2, v.3))
below_says zero p records v h = absurd (nothing_in v h)
below_says (suc q) p records v h = go (Contains-append_cases (verdicts_below q p records) (verdict_in p q (decided records q)) v h) (below_says q p records v)
  where
    go : Contains (verdicts_below q p records) v ⊎ Contains (verdict_in p q (decided records q)) v
        → (Contains (verdicts_below q p records) v → (v.0 ≡ p) × (decided records v.1 ≡ Some (v.2, v.3))) → (v.0 ≡ p) × (decided records v.1 ≡ Some (v.2, v.3))
    go (inl l) h = h l
    go (inr r) h = let one = one_says p q (decided records q) v r in (one.0, ap (λ (k : ℕ). decided records k) one.1 ∙ one.2)

pub each_says : (m questions : ℕ) (liars : ℕ → Bool) (w : World) (v : Verdict) → Contains (verdicts_of_below m questions liars w) v → Says m liars w v
each_says zero questions liars w v h = absurd (nothing_in v h)
each_says (suc p) questions liars w v h = go (liars p) refl (Contains-append_cases (verdicts_of_below p questions liars w) (cond (liars p) [] (verdicts_below questions p (w.journal p))) v h)
    (each_says p questions liars w v)
  where
    go : (b : Bool) → liars p ≡ b → Contains (verdicts_of_below p questions liars w) v ⊎ Contains (cond (liars p) [] (verdicts_below questions p (w.journal p))) v
        → (Contains (verdicts_of_below p questions liars w) v → Says p liars w v) → Says (suc p) liars w v
    go b e (inl l) h = let s = h l in record { member = omega (arith, s.member); honest = s.honest; decision = s.decision }
    go true e (inr r) h = absurd (nothing_in v (subst (λ (b : Bool). Contains (cond b [] (verdicts_below questions p (w.journal p))) v) e r))
    go false e (inr r) h =
        let there : Contains (verdicts_below questions p (w.journal p)) v = subst (λ (b : Bool). Contains (cond b [] (verdicts_below questions p (w.journal p))) v) e r in
        let told = below_says questions p (w.journal p) v there in
        record {
          member = omega (arith, told.0);
          honest = ap liars told.0 ∙ e;
          decision = ap (λ (k : ℕ). decided (w.journal k) v.1) told.0 ∙ told.1;
        }

some_same : (x y : ℕ × Bool) → Some x ≡ Some y → x ≡ y
some_same x y e = cc

beq_same : (b c : Bool) → b ≡ c → beq b c ≡ true
beq_same true true e = refl
beq_same false false e = refl
beq_same true false e = cc
beq_same false true e = cc

-- a decision that is the first is among the records
pub is_decided : (records : List Record) (question round : ℕ) (bit : Bool) → decided records question ≡ Some (round, bit) → has_decided records question round bit ≡ true
is_decided [] question round bit h = cc
is_decided (Said s ∷ rs) question round bit h = is_decided rs question round bit h
is_decided (Decided q r b ∷ rs) question round bit h = go (q == question) h (is_decided rs question round bit)
  where
    go : (t : Bool) → cond t (Some (r, b)) (decided rs question) ≡ Some (round, bit) → (decided rs question ≡ Some (round, bit) → has_decided rs question round bit ≡ true)
        → ((t && ((r == round) && beq b bit)) || has_decided rs question round bit) ≡ true
    go false e h = h e
    go true e h =
        let pair : (r, b) ≡ (round, bit) = some_same (r, b) (round, bit) e in
        let rounds : (r == round) ≡ true = eq-eqb r round (ap (λ (x : ℕ × Bool). x.0) pair) in
        let bits : beq b bit ≡ true = beq_same b bit (ap (λ (x : ℕ × Bool). x.1) pair) in
        rw (rounds, bits) refl

-- what agrees in the world agrees in the verdicts
pub verdicts_agree : (size : Size) (liars : ℕ → Bool) (w : World) (verdicts : List Verdict) → Agree size liars w → verdicts ≡ verdicts_of size liars w → HaveOneBit verdicts
verdicts_agree size liars w verdicts agree are a b question round later v u has other =
    let one = each_says size.n size.questions liars w (a, question, round, v) (subst (λ (l : List Verdict). Contains l (a, question, round, v)) are has) in
    let two = each_says size.n size.questions liars w (b, question, later, u) (subst (λ (l : List Verdict). Contains l (b, question, later, u)) are other) in
    agree a b question round later v u (record { member = one.member; honest = one.honest }) (record { member = two.member; honest = two.honest })
    (is_decided (w.journal a) question round v one.decision) (is_decided (w.journal b) question later u two.decision)

pub verdicts_unanimous : (size : Size) (liars : ℕ → Bool) (w : World) (verdicts : List Verdict) (question : ℕ) (v : Bool) → Unanimous size liars w → AllPropose w question v
    → verdicts ≡ verdicts_of size liars w → (a round : ℕ) (u : Bool) → Contains verdicts (a, question, round, u) → u ≡ v
verdicts_unanimous size liars w verdicts question v unanimous all are a round u has =
    let one = each_says size.n size.questions liars w (a, question, round, u) (subst (λ (l : List Verdict). Contains l (a, question, round, u)) are has) in
    unanimous question v all a round u (record { member = one.member; honest = one.honest }) (is_decided (w.journal a) question round u one.decision)
