-- What a member does, as steps of the world.
use Rattle.std.proofs.Common.{◌≡◌, ℕ, ◌⊎◌, inl, inr, Bool, true, false, Option, Some, Result, Ok, Err, IfOk, List, [], ◌∷◌, ◌++◌, refl, sym, ap, subst, ◌∙◌, append_assoc}
use Rattle.terms_prelude.specs.Terms.{Size, Record, Statement, Header, Reply, records_of, records_of_all, without_tosses}
use Rattle.std.specs.Global.{Vec}
use Rattle.terms.specs.Reply.{Event as Happening}
use Rattle.disk.specs.declared.memory.MemDisk.{MemDisk}
use Rattle.disk.specs.Memory.{memory_state}
use Rattle.disk.specs.Model.{State, MayLeave, at_rest}
use Rattle.journal.specs.Words.{header_text, batches_bytes, IsFrontOf, Holds}
use Rattle.journal.proofs.Crash.{begins_kept}
use Rattle.journal.proofs.Held.{left_holds}
use Rattle.questions.specs.declared.answer.Answer.{Answer}
use Rattle.world.specs.Words.{World, in_doubt, after, Hears, Crash, Restart}
use Rattle.world.proofs.Runs.{put-here}
use Rattle.member.specs.declared.fault.MemberFault.{MemberFault}
use Rattle.member.specs.declared.fault.MemberFault.TheVariants.{Stopped, Device, Memory, JournalFull, NoSuchQuestion, NoSuchMember}
use Rattle.member.specs.declared.member.Member.{Member}
use Rattle.member.specs.Words.{member_disk, member_saved, member_header, member_is_stopped, IsSound, memory_disk, IsLeft, MemberIsAt, DoesStep, LivesBy, world_step, LivesAll, replies_of}
use Rattle.sim.specs.Words.{Mark, Done, Here, IsMarkOf, IsMove, IsDown, Answers, AnswersGroup, Reopens, mine}

-- an event that a member answered
pub told : {A : Type 0} (reply_in : A → Reply) (size : Size) (liars : ℕ → Bool) (p : ℕ) (w : World) (toss : ℕ) (fused : Bool) (event : Happening) (old new : Member MemDisk)
    (answer : Result A MemberFault) (mark : Mark) → IsMarkOf fused answer mark → LivesBy reply_in memory_disk (mine size p) liars w toss event answer old new
    → IsMove size liars p w (Answers size p w fused toss event mark) (Here new)
told reply_in size liars p w toss fused event old new (Ok a) mark is lives = record {
  steps = world_step p event (records_of (reply_in a)) true ∷ [];
  is = subst (λ (m : Mark). Answers size p w fused toss event m (world_step p event (records_of (reply_in a)) true ∷ [])) (sym is)
      (record { reply = reply_in a; replies = lives.0; is = refl });
  is_run = (lives.1.0, tt);
  at = lives.1.1 tt;
}
told reply_in size liars p w toss fused event old new (Err Device) mark is lives = record {
  steps = world_step p event (records_of lives.0) false ∷ [];
  is = subst (λ (m : Mark). Answers size p w fused toss event m (world_step p event (records_of lives.0) false ∷ [])) (sym is.1)
      (is.0, record { reply = lives.0; replies = lives.1; is = refl });
  is_run = (lives.2.0, tt);
  at = lives.2.1 tt;
}
told reply_in size liars p w toss fused event old new (Err Stopped) mark is lives = absurd is
told reply_in size liars p w toss fused event old new (Err Memory) mark is lives = absurd is
told reply_in size liars p w toss fused event old new (Err JournalFull) mark is lives = absurd is
told reply_in size liars p w toss fused event old new (Err NoSuchQuestion) mark is lives = absurd is
told reply_in size liars p w toss fused event old new (Err NoSuchMember) mark is lives = absurd is

pub told_ok : {A : Type 0} (reply_in : A → Reply) (size : Size) (liars : ℕ → Bool) (p : ℕ) (w : World) (toss : ℕ) (fused : Bool) (event : Happening) (old new : Member MemDisk)
    (answer : Result A MemberFault) {E : Type 0} (result : Result Mark E) → IfOk result (λ mark. IsMarkOf fused answer mark)
    → LivesBy reply_in memory_disk (mine size p) liars w toss event answer old new
    → IfOk result (λ mark. IsMove size liars p w (Answers size p w fused toss event mark) (Here new))
told_ok reply_in size liars p w toss fused event old new answer (Ok mark) is lives = told reply_in size liars p w toss fused event old new answer mark is lives
told_ok reply_in size liars p w toss fused event old new answer (Err e) is lives = tt

-- a group that a member answered
told_all : (size : Size) (liars : ℕ → Bool) (p : ℕ) (w : World) (fused : Bool) (es : List (ℕ × Statement × ℕ)) (old new : Member MemDisk)
    (answers : Result (Vec Answer) MemberFault) (mark : Mark) → IsMarkOf fused answers mark → LivesAll memory_disk (mine size p) liars w es answers old new
    → IsMove size liars p w (AnswersGroup size p w fused es mark) (Here new)
told_all size liars p w fused es old new (Ok a) mark is lives = record {
  steps = Hears p (without_tosses es) (records_of_all (replies_of a.items)) true ∷ [];
  is = subst (λ (m : Mark). AnswersGroup size p w fused es m (Hears p (without_tosses es) (records_of_all (replies_of a.items)) true ∷ [])) (sym is)
      (record { replies = replies_of a.items; all_reply = lives.0; is = refl });
  is_run = (lives.1.0, tt);
  at = lives.1.1 tt;
}
told_all size liars p w fused es old new (Err Device) mark is lives = record {
  steps = Hears p (without_tosses es) (records_of_all lives.0) false ∷ [];
  is = subst (λ (m : Mark). AnswersGroup size p w fused es m (Hears p (without_tosses es) (records_of_all lives.0) false ∷ [])) (sym is.1)
      (is.0, record { replies = lives.0; all_reply = lives.1; is = refl });
  is_run = (lives.2.0, tt);
  at = lives.2.1 tt;
}
told_all size liars p w fused es old new (Err Stopped) mark is lives = absurd is
told_all size liars p w fused es old new (Err Memory) mark is lives = absurd is
told_all size liars p w fused es old new (Err JournalFull) mark is lives = absurd is
told_all size liars p w fused es old new (Err NoSuchQuestion) mark is lives = absurd is
told_all size liars p w fused es old new (Err NoSuchMember) mark is lives = absurd is

pub told_all_ok : (size : Size) (liars : ℕ → Bool) (p : ℕ) (w : World) (fused : Bool) (es : List (ℕ × Statement × ℕ)) (old new : Member MemDisk)
    (answers : Result (Vec Answer) MemberFault) {E : Type 0} (result : Result Mark E) → IfOk result (λ mark. IsMarkOf fused answers mark)
    → LivesAll memory_disk (mine size p) liars w es answers old new
    → IfOk result (λ mark. IsMove size liars p w (AnswersGroup size p w fused es mark) (Here new))
told_all_ok size liars p w fused es old new answers (Ok mark) is lives = told_all size liars p w fused es old new answers mark is lives
told_all_ok size liars p w fused es old new answers (Err e) is lives = tt

-- a file that a crash leaves of one at rest holds what that one held
pub holds_kept : (header : Header) (records : List Record) (seen file : List ℕ) → Holds header records seen → MayLeave (at_rest seen) file → Holds header records file
holds_kept header records seen file held may =
    let text : List ℕ = header_text header ++ batches_bytes held.batches in
    let b : IsFrontOf (text ++ 0 ∷ []) file =
    begins_kept (text ++ 0 ∷ []) seen file (held.rest, held.is ∙ sym (append_assoc text (0 ∷ []) held.rest)) may in
    record {
      lawful = held.lawful;
      batches = held.batches;
      rest = b.0;
      good = held.good;
      is = b.1 ∙ append_assoc text (0 ∷ []) b.0;
      records_are = held.records_are;
    }

-- what a crash may leave it may leave again
pub crash_left : (header : Header) (saved : List Record) (doubt : Option (List Record)) (before now : State) (file : List ℕ) → IsLeft before header saved doubt
    → MayLeave before now.seen → now ≡ at_rest file → IsLeft now header saved doubt
crash_left header saved doubt before now file left may rest c m =
    let seen : now.seen ≡ file = ap (λ (s : State). s.seen) rest in
    let at : MayLeave (at_rest now.seen) c = subst (λ (f : List ℕ). MayLeave (at_rest f) c) (sym seen) (subst (λ (s : State). MayLeave s c) rest m) in
    elim (left now.seen may) [
      | inl h ↦ inl (holds_kept header saved now.seen c h at)
      | inr h ↦ inr (holds_kept header (saved ++ in_doubt doubt) now.seen c h at)
    ]

pub true_or_false : (b : Bool) → (b ≡ true) ⊎ (b ≡ false)
true_or_false true = inl refl
true_or_false false = inr refl

-- the disk and the records of a member
pub parts_of : (header : Header) (w : World) (m : Member MemDisk) (disk : MemDisk) (records : List Record) → IsSound memory_disk m → MemberIsAt memory_disk header w m
    → disk ≡ member_disk m → records ≡ member_saved m
    → (records ≡ w.journal header.me) × IsLeft (memory_state disk) header (w.journal header.me) (w.doubt header.me)
unfolding member_disk
parts_of header w m disk records sound at d r =
    (r ∙ at.records, subst (λ (x : MemDisk). IsLeft (memory_state x) header (w.journal header.me) (w.doubt header.me)) (sym d) (left (true_or_false (member_is_stopped m))))
  where
    left : (member_is_stopped m ≡ true) ⊎ (member_is_stopped m ≡ false) → IsLeft (memory_state (member_disk m)) header (w.journal header.me) (w.doubt header.me)
    left (inl e) = (at.down e).1
    left (inr e) =
        let settled = sound.filed.settled tt e in
        λ file may.
        let h : Holds (member_header m) (member_saved m) file = left_holds (memory_state (member_disk m)) (member_header m) _ (member_saved m) settled.held file may in
        inl (subst (λ (x : Header). Holds x (w.journal header.me) file) at.header_is (subst (λ (x : List Record). Holds (member_header m) x file) at.records h))

-- a crash
pub crashed : (header : Header) (w : World) (disk : MemDisk) (records : List Record) → records ≡ w.journal header.me
    → IsLeft (memory_state disk) header (w.journal header.me) (w.doubt header.me) → IsDown header (after w (Crash header.me)) disk records
crashed header w disk records saved left = record {
  batch = in_doubt (w.doubt header.me);
  doubt = put-here w.doubt header.me (Some (in_doubt (w.doubt header.me)));
  saved = saved;
  left = subst (λ (x : Option (List Record)). IsLeft (memory_state disk) header (w.journal header.me) x)
      (sym (put-here w.doubt header.me (Some (in_doubt (w.doubt header.me))))) left;
}

-- an opening that succeeds
pub reopened : (size : Size) (liars : ℕ → Bool) (p : ℕ) (w : World) (fused : Bool) (header : Header) (m : Member MemDisk) → header ≡ mine size p
    → ((kept : Bool) × DoesStep memory_disk header liars w (Restart header.me kept) m) → IsMove size liars p w (Reopens p fused Done) (Here m)
reopened size liars p w fused header m e h =
    let g : (kept : Bool) × DoesStep memory_disk (mine size p) liars w (Restart p kept) m =
    subst (λ (x : Header). (kept : Bool) × DoesStep memory_disk x liars w (Restart x.me kept) m) e h in
    record {
      steps = Restart p g.0 ∷ [];
      is = (g.0, refl);
      is_run = (g.1.0, tt);
      at = g.1.1 tt;
    }
