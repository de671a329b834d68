-- A liar's statements, heard in turn.
use Rattle.std.proofs.Common.{◌≡◌, ◌<◌, ◌+◌, ℕ, Bool, true, None, List, [], ◌∷◌, ◌++◌, length, get_or, suc, drop, eqb, eq-eqb, refl, sym, ap, subst, ◌∙◌, append-nil, append_assoc, ◌||◌, add-one}
use Rattle.std.specs.List.{AllByRecursion}
use Rattle.std.proofs.Math.Seq.{drop-cons}
use Rattle.std.proofs.lemmas.Bool.{and_from}
use Rattle.terms_prelude.specs.Terms.{Size, Statement, Record, IsWellFormed, records_of, Hearing, Proposal, statement_eq}
use Rattle.terms.specs.Reply.{Event as Happening}
use Rattle.terms.proofs.Same.{statement_eq-same}
use Rattle.world.specs.Words.{World, Step, IsCorrect, IsRun, has_sent, after, after_all, Lie}
use Rattle.world.proofs.Runs.{IsRun-append, after_all-append}
use Rattle.member.specs.Life.{world_step}
use Rattle.sim.specs.Words.{Mark, Done, Failed, Skipped, Presence, Here, Down, Liar, IsPresenceAt, IsMove, Answers, AreLies, MayCome, mine}
use Rattle.sim.proofs.Room.{comes_after}

-- a step that is kept leaves the member up
pub kept_up : (w : World) (p : ℕ) (event : Happening) (batch : List Record) → (after w (world_step p event batch true)).doubt p ≡ w.doubt p
kept_up w p (Hearing a s) batch = refl
kept_up w p (Proposal question bit) batch = refl

-- a lie changes nothing of a member
pub presence_of_lie : (size : Size) (w : World) (p liar : ℕ) (s : Statement) (presence : Presence) → IsPresenceAt (mine size p) w presence → IsPresenceAt (mine size p) (after w (Lie liar s)) presence
presence_of_lie size w p liar s (Here m) at = at
presence_of_lie size w p liar s (Down disk records) at = record { batch = at.batch; doubt = at.doubt; saved = at.saved; left = at.left }
presence_of_lie size w p liar s Liar at = at

-- a lie was sent
pub lie_sent : (w : World) (liar : ℕ) (s : Statement) → has_sent ((after w (Lie liar s)).sent) liar s ≡ true
lie_sent w liar s =
    ap (λ (b : Bool). b || has_sent w.sent liar s) (and_from (eqb liar liar) (statement_eq s s) (eq-eqb liar liar refl) (statement_eq-same s))

-- The first so many statements were said and heard, and all others may follow.
pub record HeardSoFar (size : Size) (liars : ℕ → Bool) (p : ℕ) (w : World) (fused : Bool) (liar toss : ℕ) (statements : List Statement) (i : ℕ) (presence : Presence) : Type 0 where
  pub steps : List Step
  pub is_run : IsRun size liars w steps
  pub up : (after_all w steps).doubt p ≡ None
  pub at : IsPresenceAt (mine size p) (after_all w steps) presence
  pub formed : AllByRecursion (IsWellFormed size) (drop i statements)
  pub others : (mark : Mark) (more : List Step) → AreLies size p (after_all w steps) fused liar toss (drop i statements) mark more
      → AreLies size p w fused liar toss statements mark (steps ++ more)

module _ (size : Size) (liars : ℕ → Bool) (p : ℕ) (w : World) (fused : Bool) (liar toss : ℕ) (statements : List Statement) where
  pub none_heard : (presence : Presence) → w.doubt p ≡ None → IsPresenceAt (mine size p) w presence → AllByRecursion (IsWellFormed size) statements
      → HeardSoFar size liars p w fused liar toss statements 0 presence
  none_heard presence up at formed = record {
    steps = [];
    is_run = tt;
    up = up;
    at = at;
    formed = formed;
    others = λ mark more h. h;
  }

  -- where all were heard
  pub all_heard : (i : ℕ) (presence : Presence) → drop i statements ≡ [] → HeardSoFar size liars p w fused liar toss statements i presence
      → IsMove size liars p w (AreLies size p w fused liar toss statements Done) presence
  all_heard i presence e h = record {
    steps = h.steps;
    is = subst (λ (l : List Step). AreLies size p w fused liar toss statements Done l) (append-nil h.steps)
        (h.others Done [] (subst (λ (l : List Statement). AreLies size p (after_all w h.steps) fused liar toss l Done []) (sym e) (refl, refl)));
    is_run = h.is_run;
    at = h.at;
  }

  -- one statement more
  module _ (i : ℕ) (s : Statement) (old new : Presence) (mark : Mark) (next : drop i statements ≡ s ∷ drop (i + 1) statements) (correct : IsCorrect size liars p)
      (member : liar < size.n) (lies : liars liar ≡ true) (h : HeardSoFar size liars p w fused liar toss statements i old)
      (heard : (v : World) → IsCorrect size liars p → v.doubt p ≡ None → IsPresenceAt (mine size p) v old → has_sent v.sent liar s ≡ true
      → IsMove size liars p v (Answers size p v fused toss (Hearing liar s) mark) new) where
    abbrev said : World
    said = after (after_all w h.steps) (Lie liar s)

    formed_here : AllByRecursion (IsWellFormed size) (s ∷ drop (i + 1) statements)
    formed_here = subst (λ (l : List Statement). AllByRecursion (IsWellFormed size) l) next h.formed

    move : IsMove size liars p said (Answers size p said fused toss (Hearing liar s) mark) new
    move = heard said correct h.up (presence_of_lie size (after_all w h.steps) p liar s old h.at) (lie_sent (after_all w h.steps) liar s)

    abbrev both : IsMove size liars p said (Answers size p said fused toss (Hearing liar s) mark) new → List Step
    both m = Lie liar s ∷ m.steps

    is_run_both : (m : IsMove size liars p said (Answers size p said fused toss (Hearing liar s) mark) new) → IsRun size liars w (h.steps ++ both m)
    is_run_both m = IsRun-append size liars w h.steps (both m) h.is_run ((member, lies, formed_here.0), m.is_run)

    at_both : (m : IsMove size liars p said (Answers size p said fused toss (Hearing liar s) mark) new) → IsPresenceAt (mine size p) (after_all w (h.steps ++ both m)) new
    at_both m = subst (λ (v : World). IsPresenceAt (mine size p) v new) (sym (after_all-append w h.steps (both m))) m.at

    pub one_heard : mark ≡ Done → HeardSoFar size liars p w fused liar toss statements (i + 1) new
    one_heard e = done move (subst (λ (k : Mark). Answers size p said fused toss (Hearing liar s) k move.steps) e move.is)
      where
        done : (m : IsMove size liars p said (Answers size p said fused toss (Hearing liar s) mark) new) → Answers size p said fused toss (Hearing liar s) Done m.steps
            → HeardSoFar size liars p w fused liar toss statements (i + 1) new
        done m is = record {
          steps = h.steps ++ both m;
          is_run = is_run_both m;
          up =
              ap (λ (v : World). v.doubt p) (after_all-append w h.steps (both m))
              ∙ ap (λ (l : List Step). (after_all said l).doubt p) is.is
              ∙ kept_up said p (Hearing liar s) (records_of is.reply)
              ∙ h.up;
          at = at_both m;
          formed = formed_here.1;
          others = λ last more after_these.
              let here = subst (λ (v : World). AreLies size p v fused liar toss (drop (i + 1) statements) last more) (after_all-append w h.steps (both m)) after_these in
              let all : AreLies size p (after_all w h.steps) fused liar toss (s ∷ drop (i + 1) statements) last (both m ++ more) =
              (Done, m.steps, more, refl, is, here) in
              subst (λ (l : List Step). AreLies size p w fused liar toss statements last l) (sym (append_assoc h.steps (both m) more))
              (h.others last (both m ++ more) (subst (λ (l : List Statement). AreLies size p (after_all w h.steps) fused liar toss l last (both m ++ more)) (sym next) all));
        }

    pub one_failed : (mark ≡ Done → ⊥) → IsMove size liars p w (AreLies size p w fused liar toss statements mark) new
    one_failed undone = failed move mark refl move.is
      where
        failed : (m : IsMove size liars p said (Answers size p said fused toss (Hearing liar s) mark) new) (k : Mark) → mark ≡ k → Answers size p said fused toss (Hearing liar s) k m.steps
            → IsMove size liars p w (AreLies size p w fused liar toss statements mark) new
        failed m Done e is = absurd (undone e)
        failed m (Skipped reason) e is = absurd is
        failed m Failed e is =
            let all : AreLies size p (after_all w h.steps) fused liar toss (s ∷ drop (i + 1) statements) Failed (both m) =
            (Failed, m.steps, [], ap (λ (l : List Step). Lie liar s ∷ l) (sym (append-nil m.steps)), is, (refl, refl)) in
            record {
              steps = h.steps ++ both m;
              is = subst (λ (k : Mark). AreLies size p w fused liar toss statements k (h.steps ++ both m)) (sym e)
                  (h.others Failed (both m) (subst (λ (l : List Statement). AreLies size p (after_all w h.steps) fused liar toss l Failed (both m)) (sym next) all));
              is_run = is_run_both m;
              at = at_both m;
            }

-- what holds of one more statement in each world that may come
pub one_more : (size : Size) (liars : ℕ → Bool) (p : ℕ) (w : World) (fused : Bool) (liar toss : ℕ) (statements : List Statement) (i : ℕ) (s : Statement) (presence : Presence) {T : Type 0}
    → drop i statements ≡ s ∷ drop (i + 1) statements → MayCome size liars w → IsCorrect size liars p → liar < size.n → liars liar ≡ true
    → HeardSoFar size liars p w fused liar toss statements i presence
    → ((v : World) → IsCorrect size liars p → v.doubt p ≡ None → IsPresenceAt (mine size p) v presence → has_sent v.sent liar s ≡ true → MayCome size liars v → T) → T
one_more size liars p w fused liar toss statements i s presence next may correct member lies h holds =
    let here = after_all w h.steps in
    let formed : AllByRecursion (IsWellFormed size) (s ∷ drop (i + 1) statements) = subst (λ (l : List Statement). AllByRecursion (IsWellFormed size) l) next h.formed in
    holds (after here (Lie liar s)) correct h.up (presence_of_lie size here p liar s presence h.at) (lie_sent here liar s)
    (comes_after size liars here (Lie liar s ∷ []) (comes_after size liars w h.steps may h.is_run) ((member, lies, formed.0), tt))

pub next_of : (statements : List Statement) (i : ℕ) (s : Statement) → i < length statements → s ≡ get_or statements i s → drop i statements ≡ s ∷ drop (i + 1) statements
next_of statements i s l e =
    drop-cons statements i s l ∙ ap (λ (x : Statement). x ∷ drop (suc i) statements) (sym e) ∙ ap (λ (k : ℕ). s ∷ drop k statements) (sym (add-one i))
