-- The bits that a script proposes are those that the world was handed.
use Rattle.std.proofs.Common.{◌≡◌, ◌+◌, ℕ, Option, Some, None, Bool, true, false, cond, ◌&&◌, ◌||◌, ◌==◌, ◌⊎◌, inl, inr, Result, Ok, Err, List, [], ◌∷◌, ◌++◌, refl, sym, ap, subst, ◌∙◌, nat_lt, eqb-true}
use Rattle.terms_prelude.specs.Terms.{is_none, Size, Statement, Record, records_of, Hearing, Proposal}
use Rattle.rounds.specs.declared.tosses.Toss.{Toss}
use Rattle.std.specs.Bool.{beq}
use Rattle.std.specs.List.{AllByRecursion}
use Rattle.std.specs.Global.{Vec}
use Rattle.terms.specs.Reply.{Event as Happening}
use Rattle.wire.specs.declared.message.Message.{Message}
use Rattle.wire.specs.Reading.{End, Rest, Broken}
use Rattle.world.specs.Words.{World, Step, after, after_all, Lie, Hears, Proposes, AllPropose, has_proposed}
use Rattle.world.specs.World.Step.{Crash as CrashStep, Restart as RestartStep}
use Rattle.member.specs.Life.{world_step}
use Rattle.sim.specs.Words.{Event, Propose, Deliver, DeliverAll, LieBytes, Fuse, Crash, Restart, Reset, Which, Next, At, Mark, Done, Failed, Skipped, Reason, Instruction, nth_said, hearings_from, Answers, AnswersGroup, AreLies, Reopens, Scene, plan_of, delivery_of, to_deliver, for_link, group_of, to_group, Does, HearsLies, moved, bytes_in, IsPlanned, IsEvent, IsRunOf, ProposesOnly, ProposedOnly, AllProposedOnly}
use Rattle.sim.specs.declared.tasks.Instruction.TheVariants as task

split : (x y z rest : Bool) → ((x && (y && z)) || rest) ≡ true → ((y ≡ true) × (z ≡ true)) ⊎ (rest ≡ true)
split false y z rest h = inr h
split true false z rest h = inr h
split true true false rest h = inr h
split true true true rest h = inl (refl, refl)

bits_same : (b c : Bool) → beq b c ≡ true → b ≡ c
bits_same true true h = refl
bits_same false false h = refl
bits_same true false h = cc
bits_same false true h = cc

all-both : (P : Step → Type 0) (xs ys : List Step) → AllByRecursion P xs → AllByRecursion P ys → AllByRecursion P (xs ++ ys)
all-both P [] ys a b = b
all-both P (x ∷ xs) ys a b = (a.0, all-both P xs ys a.1 b)

module _ (question : ℕ) (v : Bool) where
  -- the step hands in no other bit
  abbrev IsOfBit : Step → Type 0
  IsOfBit (Lie a s) = Unit {0}
  IsOfBit (Hears p es batch kept) = Unit {0}
  IsOfBit (Proposes p q bit batch kept) = q ≡ question → bit ≡ v
  IsOfBit (CrashStep p) = Unit {0}
  IsOfBit (RestartStep p kept) = Unit {0}

  proposed_more : (proposed : List (ℕ × ℕ × Bool)) (p q : ℕ) (bit : Bool) → (q ≡ question → bit ≡ v)
      → ((a : ℕ) (b : Bool) → has_proposed proposed a question b ≡ true → b ≡ v)
      → (a : ℕ) (b : Bool) → has_proposed ((p, q, bit) ∷ proposed) a question b ≡ true → b ≡ v
  proposed_more proposed p q bit ok all a b h = go (split (p == a) (q == question) (beq bit b) (has_proposed proposed a question b) h)
    where
      go : (((q == question) ≡ true) × (beq bit b ≡ true)) ⊎ (has_proposed proposed a question b ≡ true) → b ≡ v
      go (inl e) = sym (bits_same bit b e.1) ∙ ok (eqb-true q question e.0)
      go (inr e) = all a b e

  one_step : (w : World) (x : Step) → IsOfBit x → AllPropose w question v → AllPropose (after w x) question v
  one_step w (Lie a s) ok all = all
  one_step w (Hears p es batch true) ok all = all
  one_step w (Hears p es batch false) ok all = all
  one_step w (Proposes p q bit batch true) ok all = proposed_more w.proposed p q bit ok all
  one_step w (Proposes p q bit batch false) ok all = proposed_more w.proposed p q bit ok all
  one_step w (CrashStep p) ok all = all
  one_step w (RestartStep p kept) ok all = all

  all_steps : (w : World) (xs : List Step) → AllByRecursion IsOfBit xs → AllPropose w question v → AllPropose (after_all w xs) question v
  all_steps w [] ok all = all
  all_steps w (x ∷ xs) ok all = all_steps (after w x) xs ok.1 (one_step w x ok.0 all)

  none : (steps : List Step) → steps ≡ [] → AllByRecursion IsOfBit steps
  none steps e = subst (λ (l : List Step). AllByRecursion IsOfBit l) (sym e) tt

  answers_ok : (size : Size) (p : ℕ) (w : World) (fused : Bool) (toss : ℕ) (event : Happening) (mark : Mark) (steps : List Step)
      → ((records : List Record) (kept : Bool) → IsOfBit (world_step p event records kept)) → Answers size p w fused toss event mark steps → AllByRecursion IsOfBit steps
  answers_ok size p w fused toss event Done steps ok a = subst (λ (l : List Step). AllByRecursion IsOfBit l) (sym a.is) (ok (records_of a.reply) true, tt)
  answers_ok size p w fused toss event Failed steps ok a = subst (λ (l : List Step). AllByRecursion IsOfBit l) (sym a.1.is) (ok (records_of a.1.reply) false, tt)
  answers_ok size p w fused toss event (Skipped reason) steps ok a = absurd a

  all_ok : (size : Size) (p : ℕ) (w : World) (fused : Bool) (es : List (ℕ × Statement × ℕ)) (mark : Mark) (steps : List Step)
      → AnswersGroup size p w fused es mark steps → AllByRecursion IsOfBit steps
  all_ok size p w fused es Done steps a = subst (λ (l : List Step). AllByRecursion IsOfBit l) (sym a.is) (tt, tt)
  all_ok size p w fused es Failed steps a = subst (λ (l : List Step). AllByRecursion IsOfBit l) (sym a.1.is) (tt, tt)
  all_ok size p w fused es (Skipped reason) steps a = absurd a

  lies_ok : (size : Size) (p : ℕ) (w : World) (fused : Bool) (liar toss : ℕ) (statements : List Statement) (mark : Mark) (steps : List Step)
      → AreLies size p w fused liar toss statements mark steps → AllByRecursion IsOfBit steps
  lies_ok size p w fused liar toss [] mark steps h = none steps h.1
  lies_ok size p w fused liar toss (s ∷ ss) mark steps (Done, heard, others, is, a, g) =
      subst (λ (l : List Step). AllByRecursion IsOfBit l) (sym is) (
        tt,
        all-both IsOfBit heard others (answers_ok size p (after w (Lie liar s)) fused toss (Hearing liar s) Done heard (λ records kept. tt) a)
            (lies_ok size p (after_all w (Lie liar s ∷ heard)) fused liar toss ss mark others g),
      )
  lies_ok size p w fused liar toss (s ∷ ss) mark steps (Failed, heard, others, is, a, g) =
      subst (λ (l : List Step). AllByRecursion IsOfBit l) (sym is)
      (tt, all-both IsOfBit heard others (answers_ok size p (after w (Lie liar s)) fused toss (Hearing liar s) Failed heard (λ records kept. tt) a) (none others g.1))
  lies_ok size p w fused liar toss (s ∷ ss) mark steps (Skipped reason, heard, others, is, a, g) = absurd g

  hears_ok : (size : Size) (c : Scene) (p liar : ℕ) (bytes : List ℕ) (toss : ℕ) (messages : List Message) (end : End) (mark : Mark) (steps : List Step)
      → HearsLies size c p liar bytes toss messages end mark steps → AllByRecursion IsOfBit steps
  hears_ok size c p liar bytes toss messages (Broken fault) mark steps h = none steps h.1
  hears_ok size c p liar bytes toss messages (Rest rest) mark steps h = lies_ok size p c.world (c.fused p) liar toss _ mark steps h.3

  reopens_ok : (p : ℕ) (fused : Bool) (mark : Mark) (steps : List Step) → Reopens p fused mark steps → AllByRecursion IsOfBit steps
  reopens_ok p fused Done steps h = subst (λ (l : List Step). AllByRecursion IsOfBit l) (sym h.1) (tt, tt)
  reopens_ok p fused Failed steps h = none steps h.1
  reopens_ok p fused (Skipped reason) steps h = absurd h

  -- the task is no proposal of another bit
  abbrev TaskOk : Instruction → Type 0
  TaskOk (task.Propose q bit toss) = q ≡ question → bit ≡ v
  TaskOk (task.Deliver from s place toss) = Unit {0}
  TaskOk (task.DeliverAll from count toss) = Unit {0}
  TaskOk (task.Lie liar toss) = Unit {0}
  TaskOk (task.Fuse calls) = Unit {0}
  TaskOk (task.Crash pick) = Unit {0}
  TaskOk task.Restart = Unit {0}
  TaskOk (task.Reset from) = Unit {0}

  does_ok : (size : Size) (c : Scene) (p : ℕ) (told : Instruction) (bytes : List ℕ) (mark : Mark) (steps : List Step) → TaskOk told → Does size c p told bytes mark steps → AllByRecursion IsOfBit steps
  does_ok size c p (task.Propose q bit toss) bytes mark steps ok h = answers_ok size p c.world (c.fused p) toss.0 (Proposal q bit) mark steps (λ records kept. ok) h
  does_ok size c p (task.Deliver from s place toss) bytes mark steps ok h = answers_ok size p c.world (c.fused p) toss.0 (Hearing from s) mark steps (λ records kept. tt) h
  does_ok size c p (task.DeliverAll from count toss) bytes mark steps ok h =
      all_ok size p c.world (c.fused p) (hearings_from from toss.0 (group_of c from p count)) mark steps h
  does_ok size c p (task.Lie liar toss) bytes mark steps ok h = hears_ok size c p liar bytes toss.0 h.0 h.1 mark steps h.3
  does_ok size c p (task.Fuse calls) bytes mark steps ok h = none steps h.1
  does_ok size c p (task.Crash pick) bytes mark steps ok h = subst (λ (l : List Step). AllByRecursion IsOfBit l) (sym h.1) (tt, tt)
  does_ok size c p task.Restart bytes mark steps ok h = reopens_ok p (c.fused p) mark steps h
  does_ok size c p (task.Reset from) bytes mark steps ok h = none steps h.1

  abbrev PlanOk : Result (ℕ × Instruction) Reason → Type 0
  PlanOk (Ok to) = TaskOk to.1
  PlanOk (Err reason) = Unit {0}

  either : (b : Bool) (x y : Result (ℕ × Instruction) Reason) → PlanOk x → PlanOk y → PlanOk (cond b x y)
  either true x y f g = f
  either false x y f g = g

  said_ok : (from to place : ℕ) (toss : Toss) (found : Option Statement) → PlanOk (to_deliver from to place toss found)
  said_ok from to place toss None = tt
  said_ok from to place toss (Some s) = tt

  which_ok : (records : List Record) (place from to : ℕ) (which : Which) (toss : Toss) → PlanOk (delivery_of records place from to which toss)
  which_ok records place from to Next toss = said_ok from to (place + 1) toss (nth_said records place)
  which_ok records place from to (At number) toss = said_ok from to place toss (nth_said records number)

  group_ok : (from to count : ℕ) (toss : Toss) (statements : List Statement) → PlanOk (to_group from to count toss statements)
  group_ok from to count toss [] = tt
  group_ok from to count toss (s ∷ statements) = tt

  link_ok : (size : Size) (liars : ℕ → Bool) (w : World) (from to : ℕ) (plan : Result (ℕ × Instruction) Reason) → PlanOk plan → PlanOk (for_link size liars w from to plan)
  link_ok size liars w from to plan ok =
      either (nat_lt from size.n) _ _ (either (nat_lt to size.n) _ _ (either (liars from) _ _ tt (either (liars to) _ _ tt (either (is_none (w.doubt to)) _ _ ok tt))) tt) tt

  plan_ok : (size : Size) (liars : ℕ → Bool) (c : Scene) (event : Event) → ProposesOnly question v event → PlanOk (plan_of size liars c event)
  plan_ok size liars c (Propose m q bit toss) ok =
      either (nat_lt q size.questions) _ _ (either (nat_lt m size.n) _ _ (either (liars m) _ _ tt (either (is_none (c.world.doubt m)) _ _ ok tt)) tt) tt
  plan_ok size liars c (Deliver from to which toss) ok =
      link_ok size liars c.world from to _ (which_ok (c.world.journal from) (c.place from to) from to which toss)
  plan_ok size liars c (DeliverAll from to count toss) ok = link_ok size liars c.world from to _ (group_ok from to count toss (group_of c from to count))
  plan_ok size liars c (LieBytes liar to bytes toss) ok =
      either (nat_lt liar size.n) _ _ (either (nat_lt to size.n) _ _ (either (liars liar) _ _ (either (liars to) _ _ tt (either (is_none (c.world.doubt to)) _ _ tt tt)) tt) tt) tt
  plan_ok size liars c (Fuse m calls) ok = either (nat_lt m size.n) _ _ (either (liars m) _ _ tt tt) tt
  plan_ok size liars c (Crash m pick) ok = either (nat_lt m size.n) _ _ (either (liars m) _ _ tt tt) tt
  plan_ok size liars c (Restart m) ok = either (nat_lt m size.n) _ _ (either (liars m) _ _ tt (either (is_none (c.world.doubt m)) _ _ tt tt)) tt
  plan_ok size liars c (Reset from to) ok = either (nat_lt from size.n) _ _ (either (nat_lt to size.n) _ _ tt tt) tt

  moved_world : (c : Scene) (p : ℕ) (told : Instruction) (bytes : List ℕ) (mark : Mark) (w : World) → (moved c p told bytes mark w).world ≡ w
  moved_world c p (task.Propose q bit toss) bytes mark w = refl
  moved_world c p (task.Deliver from s place toss) bytes mark w = refl
  moved_world c p (task.DeliverAll from count toss) bytes mark w = refl
  moved_world c p (task.Lie liar toss) bytes mark w = refl
  moved_world c p (task.Fuse calls) bytes mark w = refl
  moved_world c p (task.Crash pick) bytes mark w = refl
  moved_world c p task.Restart bytes Done w = refl
  moved_world c p task.Restart bytes Failed w = refl
  moved_world c p task.Restart bytes (Skipped reason) w = refl
  moved_world c p (task.Reset from) bytes mark w = refl

  moved_on : (size : Size) (c : Scene) (p : ℕ) (told : Instruction) (bytes : List ℕ) (mark : Mark) (steps : List Step) (next : Scene) → TaskOk told → Does size c p told bytes mark steps
      → next ≡ moved c p told bytes mark (after_all c.world steps) → AllPropose c.world question v → AllPropose next.world question v
  moved_on size c p told bytes mark steps next ok does is all =
      subst (λ (w : World). AllPropose w question v) (sym (ap (λ (s : Scene). s.world) is ∙ moved_world c p told bytes mark (after_all c.world steps)))
      (all_steps c.world steps (does_ok size c p told bytes mark steps ok does) all)

  same_scene : (c next : Scene) → next ≡ c → AllPropose c.world question v → AllPropose next.world question v
  same_scene c next e all = subst (λ (s : Scene). AllPropose s.world question v) (sym e) all

  skipped_on : (size : Size) (c : Scene) (plan : Result (ℕ × Instruction) Reason) (bytes : List ℕ) (reason : Reason) (saved : List Record) (steps : List Step) (next : Scene)
      → IsPlanned size c plan bytes (Skipped reason) saved steps next → AllPropose c.world question v → AllPropose next.world question v
  skipped_on size c (Ok to) bytes reason saved steps next h all = same_scene c next h.1 all
  skipped_on size c (Err told) bytes reason saved steps next h all = same_scene c next h.3 all

  done_on : (size : Size) (c : Scene) (plan : Result (ℕ × Instruction) Reason) (bytes : List ℕ) (saved : List Record) (steps : List Step) (next : Scene)
      → PlanOk plan → IsPlanned size c plan bytes Done saved steps next → AllPropose c.world question v → AllPropose next.world question v
  done_on size c (Ok to) bytes saved steps next ok h all = moved_on size c to.0 to.1 bytes Done steps next ok h.0 h.1 all
  done_on size c (Err told) bytes saved steps next ok h all = same_scene c next h.3 all

  failed_on : (size : Size) (c : Scene) (plan : Result (ℕ × Instruction) Reason) (bytes : List ℕ) (saved : List Record) (steps : List Step) (next : Scene)
      → PlanOk plan → IsPlanned size c plan bytes Failed saved steps next → AllPropose c.world question v → AllPropose next.world question v
  failed_on size c (Ok to) bytes saved steps next ok h all = moved_on size c to.0 to.1 bytes Failed steps next ok h.0 h.1 all
  failed_on size c (Err told) bytes saved steps next ok h all = same_scene c next h.3 all

  event_on : (size : Size) (liars : ℕ → Bool) (c : Scene) (event : Event) (mark : Mark) (saved : List Record) (steps : List Step) (next : Scene)
      → ProposedOnly question v event mark → IsEvent size liars c event mark saved steps next → AllPropose c.world question v → AllPropose next.world question v
  event_on size liars c event Done saved steps next ok h all = done_on size c (plan_of size liars c event) (bytes_in event) saved steps next (plan_ok size liars c event ok) h all
  event_on size liars c event Failed saved steps next ok h all = failed_on size c (plan_of size liars c event) (bytes_in event) saved steps next (plan_ok size liars c event ok) h all
  event_on size liars c event (Skipped reason) saved steps next ok h all = skipped_on size c (plan_of size liars c event) (bytes_in event) reason saved steps next h all

  -- the world was handed no other bit than the script proposes
  pub script_on : (size : Size) (liars : ℕ → Bool) (c : Scene) (events : List Event) (marks : List Mark) (saved : List (Vec Record)) (steps : List Step) (last : Scene)
      → AllProposedOnly question v events marks → IsRunOf size liars c events marks saved steps last → AllPropose c.world question v → AllPropose last.world question v
  script_on size liars c [] [] [] steps last ok h all = same_scene c last h.1 all
  script_on size liars c (e ∷ events) (m ∷ marks) (r ∷ saved) steps last ok (first, others, next, is, did, tail) all =
      script_on size liars next events marks saved others last ok.1 tail (event_on size liars c e m r.items first next ok.0 did all)
  script_on size liars c [] [] (r ∷ saved) steps last ok h all = absurd h
  script_on size liars c [] (m ∷ marks) saved steps last ok h all = absurd h
  script_on size liars c (e ∷ events) [] saved steps last ok h all = absurd h
  script_on size liars c (e ∷ events) (m ∷ marks) [] steps last ok h all = absurd h
