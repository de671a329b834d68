-- Tasks of one post as steps of the world.
use Rattle.std.proofs.Common.{◌≡◌, ◌<◌, ◌+◌, ℕ, Bool, true, false, eqb, eq-eqb, Option, Result, Ok, Err, IfOk, List, [], ◌∷◌, ◌++◌, length, get_or, set, get_or-set_same, get_or-set_other, refl, sym, ap, subst, ◌∙◌, arith, is_some, eqb-true}
use Rattle.std.specs.List.{AllByRecursion}
use Rattle.std.proofs.lemmas.Bool.{eqb-false}
use Rattle.terms_prelude.specs.Terms.{Size, Statement, IsWellFormed, Hearing, Proposal}
use Rattle.rounds.specs.declared.tosses.Toss.{Toss}
use Rattle.disk.specs.declared.crash.Pick.{Pick}
use Rattle.wire.specs.declared.message.Message.{Message}
use Rattle.wire.specs.Reading.{End, Rest, Broken, ReadsMessages}
use Rattle.wire.proofs.Cutting.{written_reads}
use Rattle.wire.proofs.Whole.{joins}
use Rattle.world.specs.Words.{World, Step, after, after_all, Lie}
use Rattle.world.specs.World.Step.{Crash as CrashStep}
use Rattle.world.proofs.Runs.{put-here}
use Rattle.sim.specs.Words.{Mark, Done, Failed, Skipped, Reason, Nothing, Link, Post, Presence, statements_in, is_broken_at, ReadsBytes, IsPresenceAt, IsMove, Answers, AnswersGroup, hearings_from, AreLies, GoesOn, Reopens, is_liar, mine, Scene, Does, HearsLies, group_of, put_at, cleared, IsPost, IsLink, IsNewLink, IsDone, CanBeDone}
use Rattle.sim.specs.declared.tasks.Instruction.TheVariants as task
use Rattle.sim.proofs.Reading.{all_formed}

pub mapped : {A E : Type 0} (P Q : A → Type 0) (r : Result A E) → IfOk r P → ((x : A) → P x → Q x) → IfOk r Q
mapped P Q (Ok x) h f = f x h
mapped P Q (Err e) h f = tt

pub put_at-here : {A : Type 0} (table : ℕ → ℕ → A) (p q : ℕ) (x : A) → put_at table p q x p q ≡ x
put_at-here table p q x = rw (eq-eqb q q refl, eq-eqb p p refl) refl

pub put_at-row : {A : Type 0} (table : ℕ → ℕ → A) (p q : ℕ) (x : A) (a : ℕ) → eqb a p ≡ false → put_at table p q x a q ≡ table a q
put_at-row table p q x a ne = rw (eq-eqb q q refl, ne) refl

pub put_at-other : {A : Type 0} (table : ℕ → ℕ → A) (p q : ℕ) (x : A) (a b : ℕ) → eqb b q ≡ false → put_at table p q x a b ≡ table a b
put_at-other table p q x a b ne = rw ne refl

pub cleared-here : {A : Type 0} (table : ℕ → ℕ → A) (q : ℕ) (x : A) (a : ℕ) → cleared table q x a q ≡ x
cleared-here table q x a = rw (eq-eqb q q refl) refl

pub cleared-other : {A : Type 0} (table : ℕ → ℕ → A) (q : ℕ) (x : A) (a b : ℕ) → eqb b q ≡ false → cleared table q x a b ≡ table a b
cleared-other table q x a b ne = rw ne refl

-- the same link at an equal place that read equal bytes
pub link_same : (size : Size) (liar : Bool) (place other : ℕ) (fed bytes : List ℕ) (link : Link) → other ≡ place → bytes ≡ fed → IsLink size liar place fed link → IsLink size liar other bytes link
link_same size liar place other fed bytes link e f l = record {
  place_is = l.place_is ∙ sym e;
  size_is = l.size_is;
  messages = l.messages;
  read = subst (λ (b : List ℕ). ReadsMessages size b l.messages link.end) (sym f) l.read;
  whole = l.whole;
}

-- a new link
pub link_new : (size : Size) (liar : Bool) (place : ℕ) (fed : List ℕ) (link : Link) → place ≡ 0 → fed ≡ [] → link.place ≡ 0 → link.size ≡ size → link.end ≡ Rest []
    → IsLink size liar place fed link
link_new size liar place fed link e f at is end = record {
  place_is = at ∙ sym e;
  size_is = is;
  messages = [];
  read = subst (λ (b : List ℕ). ReadsMessages size b [] link.end) (sym f) (subst (λ (x : End). ReadsMessages size [] [] x) (sym end) (written_reads size [] tt));
  whole = λ honest. end;
}

-- one link changed
pub link_set : (size : Size) (liars : ℕ → Bool) (c d : Scene) (p from i : ℕ) (items : List Link) (link : Link) → length items ≡ size.n → from < size.n → i ≡ from
    → ((a : ℕ) (x : Link) → a < size.n → IsLink size (liars a) (c.place a p) (c.fed a p) (get_or items a x))
    → IsLink size (liars from) (d.place from p) (d.fed from p) link
    → ((a : ℕ) → eqb a from ≡ false → d.place a p ≡ c.place a p) → ((a : ℕ) → eqb a from ≡ false → d.fed a p ≡ c.fed a p)
    → (a : ℕ) (x : Link) → a < size.n → IsLink size (liars a) (d.place a p) (d.fed a p) (get_or (set items i link) a x)
link_set size liars c d p from i items link len lt e links here places feds a x la =
    subst (λ (j : ℕ). IsLink size (liars a) (d.place a p) (d.fed a p) (get_or (set items j link) a x)) (sym e) (go (eqb a from) refl)
  where
    go : (b : Bool) → eqb a from ≡ b → IsLink size (liars a) (d.place a p) (d.fed a p) (get_or (set items from link) a x)
    go true q =
        let g : a ≡ from = eqb-true a from q in
        let l : from < length items = omega arith in
        rw (g, get_or-set_same items from link x l) here
    go false q =
        rw (get_or-set_other items from a link x (eqb-false a from q))
        (link_same size (liars a) (c.place a p) (d.place a p) (c.fed a p) (d.fed a p) (get_or items a x) (places a q) (feds a q) (links a x la))

-- statements of a liar that were read are heard
pub never_skipped : (size : Size) (p : ℕ) (w : World) (fused : Bool) (liar toss : ℕ) (statements : List Statement) (reason : Reason) (steps : List Step)
    → AreLies size p w fused liar toss statements (Skipped reason) steps → ⊥
never_skipped size p w fused liar toss [] reason steps h = let e : ◌≡◌ {A = Mark} (Skipped reason) Done = h.0 in cc
never_skipped size p w fused liar toss (s ∷ ss) reason steps (one, heard, others, is, answers, goes) =
    go (λ g. never_skipped size p (after_all w (Lie liar s ∷ heard)) fused liar toss ss reason others g) one goes
  where
    go : (AreLies size p (after_all w (Lie liar s ∷ heard)) fused liar toss ss (Skipped reason) others → ⊥) → (k : Mark) → GoesOn k (λ more. AreLies size p (after_all w (Lie liar s ∷ heard)) fused liar toss ss (Skipped reason) more) (Skipped reason) others → ⊥
    go later Done g = later g
    go later Failed g = let e : ◌≡◌ {A = Mark} (Skipped reason) Failed = g.0 in cc
    go later (Skipped other) g = g

module _ (size : Size) (liars : ℕ → Bool) (c : Scene) (p : ℕ) (old : Post) (post : IsPost size liars c p old) (below : p < size.n) where
  -- a proposal
  pub proposed : (question : ℕ) (bit : Bool) (toss : Toss) (bytes : List ℕ) (mark : Mark) (presence : Presence) → liars p ≡ false → is_liar presence ≡ is_liar old.presence
      → IsMove size liars p c.world (Answers size p c.world old.fused toss.0 (Proposal question bit) mark) presence
      → IsDone size liars c p (task.Propose question bit toss) bytes mark (record old { presence = presence })
  proposed question bit toss bytes mark presence honest side move =
      go mark (subst (λ (f : Bool). IsMove size liars p c.world (Answers size p c.world f toss.0 (Proposal question bit) mark) presence) (post.fused honest) move)
    where
      go : (k : Mark) → IsMove size liars p c.world (Answers size p c.world (c.fused p) toss.0 (Proposal question bit) k) presence
          → IsDone size liars c p (task.Propose question bit toss) bytes k (record old { presence = presence })
      go Done m = record {
        steps = m.steps;
        does = m.is;
        is_run = m.is_run;
        at = record { header = post.header; side = side ∙ post.side; at = λ h. m.at; fused = post.fused; links = post.links };
      }
      go Failed m = record {
        steps = m.steps;
        does = m.is;
        is_run = m.is_run;
        at = record { header = post.header; side = side ∙ post.side; at = λ h. m.at; fused = post.fused; links = post.links };
      }
      go (Skipped reason) m = absurd m.is

  -- the links, one of which is at another place now
  links_moved : (from place i : ℕ) (link : Link) (items : List Link) (w : World) → length old.incoming.items ≡ size.n → liars from ≡ false → from < size.n → i ≡ from
      → link.place ≡ place → link.size ≡ size → link.end ≡ Rest [] → items ≡ set old.incoming.items i link
      → (a : ℕ) (x : Link) → a < size.n → IsLink size (liars a) (put_at c.place from p place a p) (c.fed a p) (get_or items a x)
  links_moved from place i link items w len honest member ei at is end set_is a x la =
      let first = post.links from link member in
      let here : IsLink size (liars from) (put_at c.place from p place from p) (c.fed from p) link = record {
        place_is = at ∙ sym (put_at-here c.place from p place);
        size_is = is;
        messages = first.messages;
        read = subst (λ (x : End). ReadsMessages size (c.fed from p) first.messages x) (first.whole honest ∙ sym end) first.read;
        whole = λ h. end;
      } in
      subst (λ (l : List Link). IsLink size (liars a) (put_at c.place from p place a p) (c.fed a p) (get_or l a x)) (sym set_is)
      (link_set size liars c (record c { world = w; place = put_at c.place from p place }) p from i old.incoming.items link len member ei post.links here
      (λ b ne. put_at-row c.place from p place b ne) (λ b ne. refl) a x la)

  -- a delivery
  pub delivered : (from : ℕ) (s : Statement) (place : ℕ) (toss : Toss) (bytes : List ℕ) (mark : Mark) (new : Post) (i : ℕ) (link : Link) → length old.incoming.items ≡ size.n
      → CanBeDone size liars c p (task.Deliver from s place toss) → i ≡ from → link.place ≡ place → link.size ≡ size → link.end ≡ Rest []
      → new.header ≡ old.header → is_liar new.presence ≡ is_liar old.presence → new.fused ≡ old.fused → new.incoming.items ≡ set old.incoming.items i link
      → IsMove size liars p c.world (Answers size p c.world old.fused toss.0 (Hearing from s) mark) new.presence
      → IsDone size liars c p (task.Deliver from s place toss) bytes mark new
  delivered from s place toss bytes mark new i link len fits ei at is end h side f items move =
      go mark (subst (λ (f : Bool). IsMove size liars p c.world (Answers size p c.world f toss.0 (Hearing from s) mark) new.presence) (post.fused fits.0.0) move)
    where
      links : (w : World) (a : ℕ) (x : Link) → a < size.n → IsLink size (liars a) (put_at c.place from p place a p) (c.fed a p) (get_or new.incoming.items a x)
      links w = links_moved from place i link new.incoming.items w len fits.1 fits.2 ei at is end items

      go : (k : Mark) → IsMove size liars p c.world (Answers size p c.world (c.fused p) toss.0 (Hearing from s) k) new.presence
          → IsDone size liars c p (task.Deliver from s place toss) bytes k new
      go Done m = record {
        steps = m.steps;
        does = m.is;
        is_run = m.is_run;
        at = record { header = h ∙ post.header; side = side ∙ post.side; at = λ h. m.at; fused = λ h. f ∙ post.fused h; links = links (after_all c.world m.steps) };
      }
      go Failed m = record {
        steps = m.steps;
        does = m.is;
        is_run = m.is_run;
        at = record { header = h ∙ post.header; side = side ∙ post.side; at = λ h. m.at; fused = λ h. f ∙ post.fused h; links = links (after_all c.world m.steps) };
      }
      go (Skipped reason) m = absurd m.is

  -- a group
  pub delivered_all : (from count : ℕ) (toss : Toss) (bytes : List ℕ) (mark : Mark) (new : Post) (i : ℕ) (link : Link) (hearings : List (ℕ × Statement × ℕ)) → length old.incoming.items ≡ size.n
      → CanBeDone size liars c p (task.DeliverAll from count toss) → i ≡ from → link.place ≡ c.place from p + length (group_of c from p count) → link.size ≡ size → link.end ≡ Rest []
      → new.header ≡ old.header → is_liar new.presence ≡ is_liar old.presence → new.fused ≡ old.fused → new.incoming.items ≡ set old.incoming.items i link
      → hearings ≡ hearings_from from toss.0 (group_of c from p count)
      → IsMove size liars p c.world (AnswersGroup size p c.world old.fused hearings mark) new.presence
      → IsDone size liars c p (task.DeliverAll from count toss) bytes mark new
  delivered_all from count toss bytes mark new i link hearings len fits ei at is end h side f items hears move =
      go mark (subst (λ (f : Bool). IsMove size liars p c.world (AnswersGroup size p c.world f (hearings_from from toss.0 group) mark) new.presence) (post.fused fits.0.0)
      (subst (λ (es : List (ℕ × Statement × ℕ)). IsMove size liars p c.world (AnswersGroup size p c.world old.fused es mark) new.presence) hears move))
    where
      group : List Statement
      group = group_of c from p count

      links : (w : World) (a : ℕ) (x : Link) → a < size.n → IsLink size (liars a) (put_at c.place from p (c.place from p + length group) a p) (c.fed a p) (get_or new.incoming.items a x)
      links w = links_moved from (c.place from p + length group) i link new.incoming.items w len fits.1 fits.2 ei at is end items

      go : (k : Mark) → IsMove size liars p c.world (AnswersGroup size p c.world (c.fused p) (hearings_from from toss.0 group) k) new.presence
          → IsDone size liars c p (task.DeliverAll from count toss) bytes k new
      go Done m = record {
        steps = m.steps;
        does = m.is;
        is_run = m.is_run;
        at = record { header = h ∙ post.header; side = side ∙ post.side; at = λ h. m.at; fused = λ h. f ∙ post.fused h; links = links (after_all c.world m.steps) };
      }
      go Failed m = record {
        steps = m.steps;
        does = m.is;
        is_run = m.is_run;
        at = record { header = h ∙ post.header; side = side ∙ post.side; at = λ h. m.at; fused = λ h. f ∙ post.fused h; links = links (after_all c.world m.steps) };
      }
      go (Skipped reason) m = absurd m.is

  -- bytes of a liar over a link that is broken
  pub broken : (liar : ℕ) (toss : Toss) (bytes : List ℕ) (new : Post) (i : ℕ) → length old.incoming.items ≡ size.n → liar < size.n → i ≡ liar → (link : Link)
      → link ≡ get_or old.incoming.items i link → is_broken_at link.end ≡ true
      → new.header ≡ old.header → new.presence ≡ old.presence → new.fused ≡ old.fused → new.incoming.items ≡ set old.incoming.items i link
      → IsDone size liars c p (task.Lie liar toss) bytes (Skipped Nothing) new
  broken liar toss bytes new i len member ei link at is h s f items = record {
    steps = [];
    does = (first.messages, link.end, subst (λ (x : End). ReadsMessages size (c.fed liar p) first.messages x) same first.read, hears link.end is);
    is_run = tt;
    at = record {
      header = h ∙ post.header;
      side = ap is_liar s ∙ post.side;
      at = λ honest. subst (λ (x : Presence). IsPresenceAt (mine size p) c.world x) (sym s) (post.at honest);
      fused = λ honest. f ∙ post.fused honest;
      links = λ a x la. subst (λ (l : List Link). IsLink size (liars a) (c.place a p) (c.fed a p) (get_or l a x)) (sym items)
          (link_set size liars c c p liar i old.incoming.items link len member ei post.links
          (subst (λ (y : Link). IsLink size (liars liar) (c.place liar p) (c.fed liar p) y) (sym there) first) (λ b ne. refl) (λ b ne. refl) a x la);
    };
  }
    where
      first : IsLink size (liars liar) (c.place liar p) (c.fed liar p) (get_or old.incoming.items liar link)
      first = post.links liar link member

      there : link ≡ get_or old.incoming.items liar link
      there = at ∙ ap (λ (j : ℕ). get_or old.incoming.items j link) ei

      same : (get_or old.incoming.items liar link).end ≡ link.end
      same = ap (λ (l : Link). l.end) (sym there)

      hears : (e : End) → is_broken_at e ≡ true → HearsLies size c p liar bytes toss.0 first.messages e (Skipped Nothing) []
      hears (Rest rest) h = cc
      hears (Broken fault) h = (refl, refl)

  -- the fuse
  pub fuse_set : (calls : Option ℕ) (bytes : List ℕ) (presence : Presence) (fused : Bool) → is_liar presence ≡ is_liar old.presence → fused ≡ is_some calls
      → (liars p ≡ false → IsPresenceAt (mine size p) c.world presence)
      → IsDone size liars c p (task.Fuse calls) bytes Done (record old { presence = presence; fused = fused })
  fuse_set calls bytes presence fused side f at = record {
    steps = [];
    does = (refl, refl);
    is_run = tt;
    at = record {
      header = post.header;
      side = side ∙ post.side;
      at = at;
      fused = λ honest. f ∙ sym (put-here c.fused p (is_some calls));
      links = post.links;
    };
  }

  -- a link that begins anew
  pub reset_done : (from : ℕ) (bytes : List ℕ) (new : Post) (i : ℕ) (link : Link) → length old.incoming.items ≡ size.n → from < size.n → i ≡ from
      → link.place ≡ 0 → link.size ≡ size → link.end ≡ Rest []
      → new.header ≡ old.header → new.presence ≡ old.presence → new.fused ≡ old.fused → new.incoming.items ≡ set old.incoming.items i link
      → IsDone size liars c p (task.Reset from) bytes Done new
  reset_done from bytes new i link len member ei at is end h s f items = record {
    steps = [];
    does = (refl, refl);
    is_run = tt;
    at = record {
      header = h ∙ post.header;
      side = ap is_liar s ∙ post.side;
      at = λ honest. subst (λ (x : Presence). IsPresenceAt (mine size p) c.world x) (sym s) (post.at honest);
      fused = λ honest. f ∙ post.fused honest;
      links = λ a x la. subst (λ (l : List Link). IsLink size (liars a) (put_at c.place from p 0 a p) (put_at c.fed from p [] a p) (get_or l a x)) (sym items)
          (link_set size liars c (record c { place = put_at c.place from p 0; fed = put_at c.fed from p [] }) p from i old.incoming.items link len member ei post.links
          (link_new size (liars from) _ _ link (put_at-here c.place from p 0) (put_at-here c.fed from p []) at is end)
          (λ b ne. put_at-row c.place from p 0 b ne) (λ b ne. put_at-row c.fed from p [] b ne) a x la);
    };
  }

  -- a crash
  pub crash_done : (pick : Pick) (bytes : List ℕ) (presence : Presence) → is_liar presence ≡ is_liar old.presence → liars p ≡ false
      → IsPresenceAt (mine size p) (after c.world (CrashStep p)) presence
      → IsDone size liars c p (task.Crash pick) bytes Done (record old { presence = presence; fused = false })
  crash_done pick bytes presence side honest at = record {
    steps = CrashStep p ∷ [];
    does = (refl, refl);
    is_run = (record { member = below; honest = honest }, tt);
    at = record {
      header = post.header;
      side = side ∙ post.side;
      at = λ h. at;
      fused = λ h. sym (put-here c.fused p false);
      links = post.links;
    };
  }

  -- an opening again that failed
  pub reopen_failed : (bytes : List ℕ) (mark : Mark) (presence : Presence) → (mark ≡ Done → ⊥) → is_liar presence ≡ is_liar old.presence → liars p ≡ false
      → IsMove size liars p c.world (Reopens p old.fused mark) presence
      → IsDone size liars c p task.Restart bytes mark (record old { presence = presence })
  reopen_failed bytes mark presence undone side honest move =
      go mark refl (subst (λ (f : Bool). IsMove size liars p c.world (Reopens p f mark) presence) (post.fused honest) move)
    where
      go : (k : Mark) → mark ≡ k → IsMove size liars p c.world (Reopens p (c.fused p) k) presence → IsDone size liars c p task.Restart bytes k (record old { presence = presence })
      go Done e m = absurd (undone e)
      go Failed e m = record {
        steps = m.steps;
        does = m.is;
        is_run = m.is_run;
        at = record { header = post.header; side = side ∙ post.side; at = λ h. m.at; fused = post.fused; links = post.links };
      }
      go (Skipped reason) e m = absurd m.is

  -- an opening again, with new links
  pub reopen_done : (bytes : List ℕ) (mark : Mark) (new : Post) → mark ≡ Done → new.header ≡ old.header → is_liar new.presence ≡ is_liar old.presence → new.fused ≡ old.fused → liars p ≡ false
      → IsMove size liars p c.world (Reopens p old.fused mark) new.presence
      → ((a : ℕ) (x : Link) → a < size.n → IsNewLink size (get_or new.incoming.items a x))
      → IsDone size liars c p task.Restart bytes Done new
  reopen_done bytes mark new e h side f honest move links =
      let m = subst (λ (k : Mark). IsMove size liars p c.world (Reopens p old.fused k) new.presence) e move in
      record {
        steps = m.steps;
        does = m.is;
        is_run = m.is_run;
        at = record {
          header = h ∙ post.header;
          side = side ∙ post.side;
          at = λ honest. m.at;
          fused = λ honest. f ∙ post.fused honest;
          links = λ a x la.
              let l = links a x la in
              link_new size (liars a) _ _ (get_or new.incoming.items a x) (cleared-here c.place p 0 a) (cleared-here c.fed p [] a) l.place_is l.size_is l.end_is;
        };
      }

  -- bytes of a liar over a link that isn't broken
  module _ (liar : ℕ) (toss : Toss) (bytes : List ℕ) (i : ℕ) (len : length old.incoming.items ≡ size.n) (lies : liars liar ≡ true) (member : liar < size.n) (ei : i ≡ liar) (link now : Link)
      (at : link ≡ get_or old.incoming.items i link) (whole : is_broken_at link.end ≡ false) (statements : List Statement) (place_is : now.place ≡ link.place) (size_is : now.size ≡ link.size)
      (takes : ReadsBytes link.size link.end bytes statements now.end) where
    first : IsLink size (liars liar) (c.place liar p) (c.fed liar p) link
    first = subst (λ (y : Link). IsLink size (liars liar) (c.place liar p) (c.fed liar p) y)
        (sym (at ∙ ap (λ (j : ℕ). get_or old.incoming.items j link) ei)) (post.links liar link member)

    taken : ReadsBytes size link.end bytes statements now.end
    taken = subst (λ (x : Size). ReadsBytes x link.end bytes statements now.end) first.size_is takes

    pub lies_formed : AllByRecursion (IsWellFormed size) statements
    lies_formed = go link.end whole taken
      where
        go : (e : End) → is_broken_at e ≡ false → ReadsBytes size e bytes statements now.end → AllByRecursion (IsWellFormed size) statements
        go (Broken fault) h t = cc
        go (Rest rest) h t = subst (λ (l : List Statement). AllByRecursion (IsWellFormed size) l) (sym (t.2 ∙ ap statements_in t.1.2)) (all_formed size t.1.0 t.1.1.each)

    pub lies_done : (mark : Mark) (new : Post) → liars p ≡ false → new.header ≡ old.header → is_liar new.presence ≡ is_liar old.presence → new.fused ≡ old.fused → new.incoming.items ≡ set old.incoming.items i now
        → IsMove size liars p c.world (AreLies size p c.world old.fused liar toss.0 statements mark) new.presence
        → IsDone size liars c p (task.Lie liar toss) bytes mark new
    lies_done mark new honest h side f items move =
        go link.end refl whole taken mark (subst (λ (x : Bool). IsMove size liars p c.world (AreLies size p c.world x liar toss.0 statements mark) new.presence) (post.fused honest) move)
      where
        post_after : (w : World) (more : List Message) → ReadsMessages size (c.fed liar p ++ bytes) (first.messages ++ more) now.end → IsPresenceAt (mine size p) w new.presence
            → IsPost size liars (record c { world = w; fed = put_at c.fed liar p (c.fed liar p ++ bytes) }) p new
        post_after w more reads presence = record {
          header = h ∙ post.header;
          side = side ∙ post.side;
          at = λ honest. presence;
          fused = λ honest. f ∙ post.fused honest;
          links = λ a x la. subst (λ (l : List Link). IsLink size (liars a) (c.place a p) (put_at c.fed liar p (c.fed liar p ++ bytes) a p) (get_or l a x)) (sym items)
              (link_set size liars c (record c { world = w; fed = put_at c.fed liar p (c.fed liar p ++ bytes) }) p liar i old.incoming.items now len member ei post.links
              (record {
                place_is = place_is ∙ first.place_is;
                size_is = size_is ∙ first.size_is;
                messages = first.messages ++ more;
                read = subst (λ (b : List ℕ). ReadsMessages size b (first.messages ++ more) now.end) (sym (put_at-here c.fed liar p (c.fed liar p ++ bytes))) reads;
                whole = λ no_liar. let clash : true ≡ false = sym lies ∙ no_liar in cc;
              })
              (λ b ne. refl) (λ b ne. put_at-row c.fed liar p (c.fed liar p ++ bytes) b ne) a x la);
        }

        does_rest : (k : Mark) (steps : List Step) (rest : List ℕ) → link.end ≡ Rest rest → (more : List Message) → ReadsMessages size (c.fed liar p ++ bytes) (first.messages ++ more) now.end
            → AreLies size p c.world (c.fused p) liar toss.0 (statements_in more) k steps → Does size c p (task.Lie liar toss) bytes k steps
        does_rest k steps rest e more reads are =
            (first.messages, Rest rest, subst (λ (x : End). ReadsMessages size (c.fed liar p) first.messages x) e first.read, (more, now.end, reads, are))

        go : (e : End) → link.end ≡ e → is_broken_at e ≡ false → ReadsBytes size e bytes statements now.end → (k : Mark) → IsMove size liars p c.world (AreLies size p c.world (c.fused p) liar toss.0 statements k) new.presence
            → IsDone size liars c p (task.Lie liar toss) bytes k new
        go (Broken fault) e w t k m = cc
        go (Rest rest) e w t (Skipped reason) m = absurd (never_skipped size p c.world (c.fused p) liar toss.0 statements reason m.steps m.is)
        go (Rest rest) e w t Done m =
            let reads = joins size (c.fed liar p) bytes rest first.messages t.1.0 now.end (subst (λ (x : End). ReadsMessages size (c.fed liar p) first.messages x) e first.read) t.1.1 in
            let are = subst (λ (l : List Statement). AreLies size p c.world (c.fused p) liar toss.0 l Done m.steps) (t.2 ∙ ap statements_in t.1.2) m.is in
            record { steps = m.steps; does = does_rest Done m.steps rest e t.1.0 reads are; is_run = m.is_run; at = post_after (after_all c.world m.steps) t.1.0 reads m.at }
        go (Rest rest) e w t Failed m =
            let reads = joins size (c.fed liar p) bytes rest first.messages t.1.0 now.end (subst (λ (x : End). ReadsMessages size (c.fed liar p) first.messages x) e first.read) t.1.1 in
            let are = subst (λ (l : List Statement). AreLies size p c.world (c.fused p) liar toss.0 l Failed m.steps) (t.2 ∙ ap statements_in t.1.2) m.is in
            record { steps = m.steps; does = does_rest Failed m.steps rest e t.1.0 reads are; is_run = m.is_run; at = post_after (after_all c.world m.steps) t.1.0 reads m.at }
