-- A task of one post as a turn of the cluster.
use Rattle.std.proofs.Common.{◌≡◌, ◌<◌, ℕ, Bool, true, false, cond, eqb, Result, Ok, Err, List, [], ◌∷◌, ◌++◌, length, drop, append-nil, append_assoc, get_or, set, get_or-set_same, get_or-set_other, refl, sym, ap, subst, ◌∙◌, arith, eqb-true}
use Rattle.std.proofs.lemmas.Bool.{eqb-false}
use Rattle.std.proofs.Math.Seq.{drop-append_seam}
use Rattle.terms_prelude.specs.Terms.{Size, Statement, Record, records_of, records_of_all, without_tosses, Hearing, Proposal, IsSize}
use Rattle.terms.specs.Reply.{Event as Happening}
use Rattle.wire.specs.declared.message.Message.{Message}
use Rattle.sim.specs.Words.{Reason, Mark, Done, Failed, Skipped, Post, Presence, Here, Down, Liar, Instruction, IsPresenceAt, Answers, AnswersGroup, hearings_from, AreLies, GoesOn, is_liar, saved_in, mine, Scene, Does, HearsLies, group_of, moved, scene_after, plan_of, bytes_in, IsPost, IsDone, IsCluster, CanBeDone, IsTurn, IsPlanned, Event}
use Rattle.wire.specs.Reading.{End, Rest, Broken}
use Rattle.world.specs.Words.{World, Step, put, in_doubt, after, after_all, Lie, Hears, Proposes}
use Rattle.world.specs.World.Step.{Crash as CrashStep, Restart as RestartStep}
use Rattle.world.proofs.Runs.{put-there, after_all-append}
use Rattle.member.specs.Life.{world_step}
use Rattle.sim.specs.declared.tasks.Instruction.TheVariants as task
use Rattle.sim.proofs.Planned.{IsRight, saved_is}
use Rattle.sim.proofs.Done.{never_skipped, put_at-other, cleared-other, link_same}

-- the two worlds have the same of that member
pub record SameAt (q : ℕ) (w v : World) : Type 0 where
  pub journal : v.journal q ≡ w.journal q
  pub heard : v.heard q ≡ w.heard q
  pub doubt : v.doubt q ≡ w.doubt q

same_here : (q : ℕ) (w : World) → SameAt q w w
same_here q w = record { journal = refl; heard = refl; doubt = refl }

same_both : (q : ℕ) (w v u : World) → SameAt q w v → SameAt q v u → SameAt q w u
same_both q w v u a b = record { journal = b.journal ∙ a.journal; heard = b.heard ∙ a.heard; doubt = b.doubt ∙ a.doubt }

event_other : (w : World) (p q : ℕ) (event : Happening) (batch : List Record) (kept : Bool) → eqb q p ≡ false → SameAt q w (after w (world_step p event batch kept))
event_other w p q (Hearing a s) batch true h = record { journal = rw h refl; heard = rw h refl; doubt = refl }
event_other w p q (Hearing a s) batch false h = record { journal = refl; heard = rw h refl; doubt = rw h refl }
event_other w p q (Proposal question bit) batch true h = record { journal = rw h refl; heard = refl; doubt = refl }
event_other w p q (Proposal question bit) batch false h = record { journal = refl; heard = refl; doubt = rw h refl }

group_other : (w : World) (p q : ℕ) (es : List (ℕ × Statement)) (batch : List Record) (kept : Bool) → eqb q p ≡ false → SameAt q w (after w (Hears p es batch kept))
group_other w p q es batch true h = record { journal = rw h refl; heard = rw h refl; doubt = refl }
group_other w p q es batch false h = record { journal = refl; heard = rw h refl; doubt = rw h refl }

by_steps : (q : ℕ) (w : World) (steps to : List Step) → steps ≡ to → SameAt q w (after_all w to) → SameAt q w (after_all w steps)
by_steps q w steps to e h = subst (λ (l : List Step). SameAt q w (after_all w l)) (sym e) h

answers_other : (size : Size) (p q : ℕ) (w : World) (fused : Bool) (toss : ℕ) (event : Happening) (mark : Mark) (steps : List Step)
    → Answers size p w fused toss event mark steps → eqb q p ≡ false → SameAt q w (after_all w steps)
answers_other size p q w fused toss event Done steps h ne = by_steps q w steps _ h.is (event_other w p q event (records_of h.reply) true ne)
answers_other size p q w fused toss event Failed steps h ne = by_steps q w steps _ h.1.is (event_other w p q event (records_of h.1.reply) false ne)
answers_other size p q w fused toss event (Skipped reason) steps h ne = absurd h

all_other : (size : Size) (p q : ℕ) (w : World) (fused : Bool) (es : List (ℕ × Statement × ℕ)) (mark : Mark) (steps : List Step)
    → AnswersGroup size p w fused es mark steps → eqb q p ≡ false → SameAt q w (after_all w steps)
all_other size p q w fused es Done steps h ne = by_steps q w steps _ h.is (group_other w p q (without_tosses es) (records_of_all h.replies) true ne)
all_other size p q w fused es Failed steps h ne = by_steps q w steps _ h.1.is (group_other w p q (without_tosses es) (records_of_all h.1.replies) false ne)
all_other size p q w fused es (Skipped reason) steps h ne = absurd h

lies_other : (size : Size) (p q : ℕ) (w : World) (fused : Bool) (liar toss : ℕ) (statements : List Statement) (mark : Mark) (steps : List Step)
    → AreLies size p w fused liar toss statements mark steps → eqb q p ≡ false → SameAt q w (after_all w steps)
lies_other size p q w fused liar toss [] mark steps h ne = by_steps q w steps [] h.1 (same_here q w)
lies_other size p q w fused liar toss (s ∷ ss) mark steps (one, heard, others, is, answers, goes) ne =
    by_steps q w steps (Lie liar s ∷ (heard ++ others)) is
    (subst (λ (v : World). SameAt q w v) (sym (after_all-append (after w (Lie liar s)) heard others))
    (same_both q w (after_all w (Lie liar s ∷ heard)) (after_all (after_all w (Lie liar s ∷ heard)) others)
    (let a = answers_other size p q (after w (Lie liar s)) fused toss (Hearing liar s) one heard answers ne in record { journal = a.journal; heard = a.heard; doubt = a.doubt })
    (rest (λ h. lies_other size p q (after_all w (Lie liar s ∷ heard)) fused liar toss ss mark others h ne) one goes)))
  where
    rest : (AreLies size p (after_all w (Lie liar s ∷ heard)) fused liar toss ss mark others → SameAt q (after_all w (Lie liar s ∷ heard)) (after_all (after_all w (Lie liar s ∷ heard)) others))
        → (k : Mark) → GoesOn k (λ more. AreLies size p (after_all w (Lie liar s ∷ heard)) fused liar toss ss mark more) mark others
        → SameAt q (after_all w (Lie liar s ∷ heard)) (after_all (after_all w (Lie liar s ∷ heard)) others)
    rest later Done g = later g
    rest later Failed g = by_steps q (after_all w (Lie liar s ∷ heard)) others [] g.1 (same_here q (after_all w (Lie liar s ∷ heard)))
    rest later (Skipped reason) g = absurd g

hears_other : (size : Size) (c : Scene) (p q liar : ℕ) (bytes : List ℕ) (toss : ℕ) (messages : List Message) (end : End) (mark : Mark) (steps : List Step)
    → HearsLies size c p liar bytes toss messages end mark steps → eqb q p ≡ false → SameAt q c.world (after_all c.world steps)
hears_other size c p q liar bytes toss messages (Broken fault) mark steps h ne = by_steps q c.world steps [] h.1 (same_here q c.world)
hears_other size c p q liar bytes toss messages (Rest rest) mark steps h ne = lies_other size p q c.world (c.fused p) liar toss _ mark steps h.3 ne

-- a task of one member leaves the others
pub does_other : (size : Size) (c : Scene) (p q : ℕ) (told : Instruction) (bytes : List ℕ) (mark : Mark) (steps : List Step) → Does size c p told bytes mark steps → eqb q p ≡ false
    → SameAt q c.world (after_all c.world steps)
does_other size c p q (task.Propose question bit toss) bytes mark steps h ne = answers_other size p q c.world (c.fused p) toss.0 (Proposal question bit) mark steps h ne
does_other size c p q (task.Deliver from s place toss) bytes mark steps h ne = answers_other size p q c.world (c.fused p) toss.0 (Hearing from s) mark steps h ne
does_other size c p q (task.DeliverAll from count toss) bytes mark steps h ne =
    all_other size p q c.world (c.fused p) (hearings_from from toss.0 (group_of c from p count)) mark steps h ne
does_other size c p q (task.Lie liar toss) bytes mark steps h ne = hears_other size c p q liar bytes toss.0 h.0 h.1 mark steps h.3 ne
does_other size c p q (task.Fuse calls) bytes mark steps h ne = by_steps q c.world steps [] h.1 (same_here q c.world)
does_other size c p q (task.Crash pick) bytes mark steps h ne = by_steps q c.world steps _ h.1 (record { journal = refl; heard = refl; doubt = rw ne refl })
does_other size c p q task.Restart bytes Done steps h ne = by_steps q c.world steps _ h.1 (record { journal = rw ne refl; heard = rw ne refl; doubt = rw ne refl })
does_other size c p q task.Restart bytes Failed steps h ne = by_steps q c.world steps [] h.1 (same_here q c.world)
does_other size c p q task.Restart bytes (Skipped reason) steps h ne = absurd h
does_other size c p q (task.Reset from) bytes mark steps h ne = by_steps q c.world steps [] h.1 (same_here q c.world)

-- its tables for the others stay
pub record SameTables (q : ℕ) (c d : Scene) : Type 0 where
  pub place : (a : ℕ) → d.place a q ≡ c.place a q
  pub fed : (a : ℕ) → d.fed a q ≡ c.fed a q
  pub fused : d.fused q ≡ c.fused q

tables_of : (c : Scene) (p q : ℕ) (told : Instruction) (bytes : List ℕ) (mark : Mark) (w : World) → eqb q p ≡ false → SameTables q c (scene_after c p told bytes mark w)
tables_of c p q told bytes (Skipped reason) w ne = record { place = λ a. refl; fed = λ a. refl; fused = refl }
tables_of c p q (task.Propose question bit toss) bytes Done w ne = record { place = λ a. refl; fed = λ a. refl; fused = refl }
tables_of c p q (task.Propose question bit toss) bytes Failed w ne = record { place = λ a. refl; fed = λ a. refl; fused = refl }
tables_of c p q (task.Deliver from s place toss) bytes Done w ne = record { place = λ a. put_at-other c.place from p place a q ne; fed = λ a. refl; fused = refl }
tables_of c p q (task.Deliver from s place toss) bytes Failed w ne = record { place = λ a. put_at-other c.place from p place a q ne; fed = λ a. refl; fused = refl }
tables_of c p q (task.DeliverAll from count toss) bytes Done w ne = record { place = λ a. put_at-other c.place from p _ a q ne; fed = λ a. refl; fused = refl }
tables_of c p q (task.DeliverAll from count toss) bytes Failed w ne = record { place = λ a. put_at-other c.place from p _ a q ne; fed = λ a. refl; fused = refl }
tables_of c p q (task.Lie liar toss) bytes Done w ne = record { place = λ a. refl; fed = λ a. put_at-other c.fed liar p (c.fed liar p ++ bytes) a q ne; fused = refl }
tables_of c p q (task.Lie liar toss) bytes Failed w ne = record { place = λ a. refl; fed = λ a. put_at-other c.fed liar p (c.fed liar p ++ bytes) a q ne; fused = refl }
tables_of c p q (task.Fuse calls) bytes Done w ne = record { place = λ a. refl; fed = λ a. refl; fused = put-there c.fused p _ q ne }
tables_of c p q (task.Fuse calls) bytes Failed w ne = record { place = λ a. refl; fed = λ a. refl; fused = put-there c.fused p _ q ne }
tables_of c p q (task.Crash pick) bytes Done w ne = record { place = λ a. refl; fed = λ a. refl; fused = put-there c.fused p false q ne }
tables_of c p q (task.Crash pick) bytes Failed w ne = record { place = λ a. refl; fed = λ a. refl; fused = put-there c.fused p false q ne }
tables_of c p q task.Restart bytes Done w ne = record { place = λ a. cleared-other c.place p 0 a q ne; fed = λ a. cleared-other c.fed p [] a q ne; fused = refl }
tables_of c p q task.Restart bytes Failed w ne = record { place = λ a. refl; fed = λ a. refl; fused = refl }
tables_of c p q (task.Reset from) bytes Done w ne = record { place = λ a. put_at-other c.place from p 0 a q ne; fed = λ a. put_at-other c.fed from p [] a q ne; fused = refl }
tables_of c p q (task.Reset from) bytes Failed w ne = record { place = λ a. put_at-other c.place from p 0 a q ne; fed = λ a. put_at-other c.fed from p [] a q ne; fused = refl }

presence_stays : (size : Size) (q : ℕ) (w v : World) (presence : Presence) → SameAt q w v → IsPresenceAt (mine size q) w presence → IsPresenceAt (mine size q) v presence
presence_stays size q w v (Here m) same at = rw (same.journal, same.heard, same.doubt) at
presence_stays size q w v (Down disk records) same at = record {
  batch = at.batch;
  doubt = same.doubt ∙ at.doubt;
  saved = at.saved ∙ sym same.journal;
  left = rw (same.journal, same.doubt) at.left;
}
presence_stays size q w v Liar same at = at

-- the steps of a liar's bytes that were skipped are none
skipped_lies : (size : Size) (p : ℕ) (w : World) (fused : Bool) (liar toss : ℕ) (statements : List Statement) (reason : Reason) (steps : List Step)
    → AreLies size p w fused liar toss statements (Skipped reason) steps → steps ≡ []
skipped_lies size p w fused liar toss statements reason steps h = absurd (never_skipped size p w fused liar toss statements reason steps h)

skipped_hears : (size : Size) (c : Scene) (p liar : ℕ) (bytes : List ℕ) (toss : ℕ) (messages : List Message) (end : End) (reason : Reason) (steps : List Step)
    → HearsLies size c p liar bytes toss messages end (Skipped reason) steps → steps ≡ []
skipped_hears size c p liar bytes toss messages (Broken fault) reason steps h = h.1
skipped_hears size c p liar bytes toss messages (Rest rest) reason steps h = skipped_lies size p c.world (c.fused p) liar toss _ reason steps h.3

skipped_does : (size : Size) (c : Scene) (p : ℕ) (told : Instruction) (bytes : List ℕ) (reason : Reason) (steps : List Step) → Does size c p told bytes (Skipped reason) steps → steps ≡ []
skipped_does size c p (task.Propose question bit toss) bytes reason steps h = absurd h
skipped_does size c p (task.Deliver from s place toss) bytes reason steps h = absurd h
skipped_does size c p (task.DeliverAll from count toss) bytes reason steps h = absurd h
skipped_does size c p (task.Lie liar toss) bytes reason steps h = skipped_hears size c p liar bytes toss.0 h.0 h.1 reason steps h.3
skipped_does size c p (task.Fuse calls) bytes reason steps h = h.1
skipped_does size c p (task.Crash pick) bytes reason steps h = let e : ◌≡◌ {A = Mark} (Skipped reason) Done = h.0 in cc
skipped_does size c p task.Restart bytes reason steps h = absurd h
skipped_does size c p (task.Reset from) bytes reason steps h = h.1

moved_world : (c : Scene) (p : ℕ) (told : Instruction) (bytes : List ℕ) (mark : Mark) (w : World) → (moved c p told bytes mark w).world ≡ w
moved_world c p (task.Propose question bit toss) bytes mark w = refl
moved_world c p (task.Deliver from s place toss) bytes mark w = refl
moved_world c p (task.DeliverAll from count toss) bytes mark w = refl
moved_world c p (task.Lie liar toss) bytes mark w = refl
moved_world c p (task.Fuse calls) bytes mark w = refl
moved_world c p (task.Crash pick) bytes mark w = refl
moved_world c p task.Restart bytes Done w = refl
moved_world c p task.Restart bytes Failed w = refl
moved_world c p task.Restart bytes (Skipped reason) w = refl
moved_world c p (task.Reset from) bytes mark w = refl

-- the scene's world is the one that the steps leave
pub world_of : (size : Size) (c : Scene) (p : ℕ) (told : Instruction) (bytes : List ℕ) (mark : Mark) (steps : List Step) → Does size c p told bytes mark steps
    → (scene_after c p told bytes mark (after_all c.world steps)).world ≡ after_all c.world steps
world_of size c p told bytes Done steps h = moved_world c p told bytes Done (after_all c.world steps)
world_of size c p told bytes Failed steps h = moved_world c p told bytes Failed (after_all c.world steps)
world_of size c p told bytes (Skipped reason) steps h = sym (ap (λ (l : List Step). after_all c.world l) (skipped_does size c p told bytes reason steps h))

-- another task leaves the post what the scene has
pub post_other : (size : Size) (liars : ℕ → Bool) (c : Scene) (p q : ℕ) (told : Instruction) (bytes : List ℕ) (mark : Mark) (steps : List Step) (post : Post)
    → Does size c p told bytes mark steps → eqb q p ≡ false → IsPost size liars c q post → IsPost size liars (scene_after c p told bytes mark (after_all c.world steps)) q post
post_other size liars c p q told bytes mark steps post does ne h =
    let t = tables_of c p q told bytes mark (after_all c.world steps) ne in
    let w = world_of size c p told bytes mark steps does in
    record {
      header = h.header;
      side = h.side;
      at = λ honest. subst (λ (v : World). IsPresenceAt (mine size q) v post.presence) (sym w) (presence_stays size q c.world (after_all c.world steps) post.presence (does_other size c p q told bytes mark steps does ne) (h.at honest));
      fused = λ honest. h.fused honest ∙ sym t.fused;
      links = λ a d la. link_same size (liars a) (c.place a q) _ (c.fed a q) _ (get_or post.incoming.items a d) (t.place a) (t.fed a) (h.links a d la);
    }

-- one post changed
pub cluster_done : (size : Size) (liars : ℕ → Bool) (c : Scene) (p : ℕ) (told : Instruction) (bytes : List ℕ) (mark : Mark) (posts : List Post) (post : Post) → length posts ≡ size.n → p < size.n
    → IsCluster size liars c posts → (d : IsDone size liars c p told bytes mark post)
    → IsCluster size liars (scene_after c p told bytes mark (after_all c.world d.steps)) (set posts p post)
cluster_done size liars c p told bytes mark posts post len below cluster done q d lq = go (eqb q p) refl
  where
    go : (b : Bool) → eqb q p ≡ b → IsPost size liars (scene_after c p told bytes mark (after_all c.world done.steps)) q (get_or (set posts p post) q d)
    go true e =
        let g : q ≡ p = eqb-true q p e in
        let l : p < length posts = omega arith in
        rw (g, get_or-set_same posts p post d l) done.at
    go false e =
        rw (get_or-set_other posts p q post d (eqb-false q p e))
        (post_other size liars c p q told bytes mark done.steps (get_or posts q d) done.does e (cluster q d lq))

-- a member's records with a batch more
put_grown : (journal : ℕ → List Record) (q p : ℕ) (batch : List Record) (b : Bool) → eqb p q ≡ b → (more : List Record) × (put journal q (journal q ++ batch) p ≡ journal p ++ more)
put_grown journal q p batch true e = (batch, rw e (ap (λ (a : ℕ). journal a ++ batch) (sym (eqb-true p q e))))
put_grown journal q p batch false e = ([], rw e (sym (append-nil (journal p))))

step_grown : (w : World) (x : Step) (p : ℕ) → (more : List Record) × ((after w x).journal p ≡ w.journal p ++ more)
step_grown w (Lie a s) p = ([], sym (append-nil (w.journal p)))
step_grown w (Hears q es batch true) p = put_grown w.journal q p batch (eqb p q) refl
step_grown w (Hears q es batch false) p = ([], sym (append-nil (w.journal p)))
step_grown w (Proposes q question bit batch true) p = put_grown w.journal q p batch (eqb p q) refl
step_grown w (Proposes q question bit batch false) p = ([], sym (append-nil (w.journal p)))
step_grown w (CrashStep q) p = ([], sym (append-nil (w.journal p)))
step_grown w (RestartStep q kept) p = put_grown w.journal q p (cond kept (in_doubt (w.doubt q)) []) (eqb p q) refl

-- journals only grow
pub grown : (w : World) (steps : List Step) (p : ℕ) → (more : List Record) × ((after_all w steps).journal p ≡ w.journal p ++ more)
grown w [] p = ([], sym (append-nil (w.journal p)))
grown w (x ∷ xs) p =
    let one = step_grown w x p in
    let all = grown (after w x) xs p in (
      one.0 ++ all.0,
      all.1 ∙ ap (λ (l : List Record). l ++ all.0) one.1 ∙ append_assoc (w.journal p) one.0 all.0,
    )

-- a task at a liar's number takes no step
liar_stays : (size : Size) (liars : ℕ → Bool) (c : Scene) (p : ℕ) (told : Instruction) (bytes : List ℕ) (mark : Mark) (steps : List Step) → liars p ≡ true → CanBeDone size liars c p told
    → Does size c p told bytes mark steps → steps ≡ []
liar_stays size liars c p (task.Propose question bit toss) bytes mark steps e fits h = let no : liars p ≡ false = fits.0 in cc
liar_stays size liars c p (task.Deliver from s place toss) bytes mark steps e fits h = let no : liars p ≡ false = fits.0.0 in cc
liar_stays size liars c p (task.DeliverAll from count toss) bytes mark steps e fits h = let no : liars p ≡ false = fits.0.0 in cc
liar_stays size liars c p (task.Lie liar toss) bytes mark steps e fits h = let no : liars p ≡ false = fits.0.0 in cc
liar_stays size liars c p (task.Fuse calls) bytes mark steps e fits h = h.1
liar_stays size liars c p (task.Crash pick) bytes mark steps e fits h = let no : liars p ≡ false = fits in cc
liar_stays size liars c p task.Restart bytes mark steps e fits h = let no : liars p ≡ false = fits.0 in cc
liar_stays size liars c p (task.Reset from) bytes mark steps e fits h = h.1

-- a liar has no records
liar_saves : (presence : Presence) → is_liar presence ≡ true → saved_in presence ≡ []
liar_saves (Here m) e = cc
liar_saves (Down disk records) e = cc
liar_saves Liar e = refl

-- what the post has of the member behind what it had is what the member came to save
came : (size : Size) (liars : ℕ → Bool) (c : Scene) (p : ℕ) (told : Instruction) (bytes : List ℕ) (mark : Mark) (old new : Post) (saved : List Record) → CanBeDone size liars c p told → IsPost size liars c p old
    → (d : IsDone size liars c p told bytes mark new) → saved ≡ drop (length (saved_in old.presence)) (saved_in new.presence)
    → (scene_after c p told bytes mark (after_all c.world d.steps)).world.journal p ≡ c.world.journal p ++ saved
came size liars c p told bytes mark old new saved fits here d is = go (liars p) refl
  where
    next : Scene
    next = scene_after c p told bytes mark (after_all c.world d.steps)

    world : next.world.journal p ≡ (after_all c.world d.steps).journal p
    world = ap (λ (w : World). w.journal p) (world_of size c p told bytes mark d.steps d.does)

    go : (b : Bool) → liars p ≡ b → next.world.journal p ≡ c.world.journal p ++ saved
    go false e =
        let before : saved_in old.presence ≡ c.world.journal p = saved_is size p c.world old.presence (here.at e) in
        let after : saved_in new.presence ≡ next.world.journal p = saved_is size p next.world new.presence (d.at.at e) in
        let g = grown c.world d.steps p in
        let long : next.world.journal p ≡ c.world.journal p ++ g.0 = world ∙ g.1 in
        let more : saved ≡ g.0 = is ∙ rw (before, after, long) (drop-append_seam (c.world.journal p) g.0) in
        long ∙ ap (λ (l : List Record). c.world.journal p ++ l) (sym more)
    go true e =
        let before : saved_in old.presence ≡ [] = liar_saves old.presence (here.side ∙ e) in
        let after : saved_in new.presence ≡ [] = liar_saves new.presence (d.at.side ∙ e) in
        let none : saved ≡ [] = is ∙ rw (before, after) refl in
        let still : d.steps ≡ [] = liar_stays size liars c p told bytes mark d.steps e fits d.does in
        world ∙ ap (λ (l : List Step). (after_all c.world l).journal p) still ∙ sym (append-nil (c.world.journal p)) ∙ ap (λ (l : List Record). c.world.journal p ++ l) (sym none)

-- a task that was carried out, as a turn; the code has the member's number as an index
pub turned : (size : Size) (liars : ℕ → Bool) (c : Scene) (event : Event) (p : ℕ) (told : Instruction) (bytes : List ℕ) (i : ℕ) (mark : Mark) (saved : List Record) (posts : List Post) (x post : Post)
    → IsSize size → i ≡ p → bytes ≡ bytes_in event → length posts ≡ size.n → plan_of size liars c event ≡ Ok (p, told) → IsRight size liars c p told → IsCluster size liars c posts
    → (IsSize size → p < size.n → IsPost size liars c p (get_or posts i x) → CanBeDone size liars c p told → IsDone size liars c p told bytes mark post)
    → saved ≡ drop (length (saved_in (get_or posts i x).presence)) (saved_in post.presence)
    → IsTurn size liars c event mark saved (set posts i post)
turned size liars c event p told bytes i mark saved posts x post lawful ei eb len plan right cluster moved is =
    let here = subst (λ (j : ℕ). IsPost size liars c p (get_or posts j x)) (sym ei) (cluster p x right.below) in
    let done = moved lawful right.below here right.fits in
    let next = scene_after c p told bytes mark (after_all c.world done.steps) in
    record {
      steps = done.steps;
      next = next;
      is = subst (λ (b : List ℕ). IsPlanned size c (plan_of size liars c event) b mark saved done.steps next) eb
          (subst (λ (r : Result (ℕ × Instruction) Reason). IsPlanned size c r bytes mark saved done.steps next) (sym plan)
          (done.does, refl, came size liars c p told bytes mark (get_or posts i x) post saved right.fits here done is));
      world_is = world_of size c p told bytes mark done.steps done.does;
      is_run = done.is_run;
      at = subst (λ (j : ℕ). IsCluster size liars next (set posts j post)) (sym ei)
          (cluster_done size liars c p told bytes mark posts post len right.below cluster done);
    }

-- a skipped event
pub skipped_turn : (size : Size) (liars : ℕ → Bool) (c : Scene) (event : Event) (reason : Reason) (saved : List Record) (posts : List Post) → plan_of size liars c event ≡ Err reason → saved ≡ []
    → IsCluster size liars c posts → IsTurn size liars c event (Skipped reason) saved posts
skipped_turn size liars c event reason saved posts plan none cluster = record {
  steps = [];
  next = c;
  is = subst (λ (r : Result (ℕ × Instruction) Reason). IsPlanned size c r (bytes_in event) (Skipped reason) saved [] c) (sym plan) (refl, none, refl, refl);
  world_is = refl;
  is_run = tt;
  at = cluster;
}
