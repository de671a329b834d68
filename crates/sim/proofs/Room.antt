-- A member's journal always has room.
use Rattle.std.proofs.Common.{◌≡◌, ◌+◌, ◌*◌, ◌^◌, ◌<◌, ◌≤◌, ◌⊎◌, inl, inr, ℕ, Bool, true, false, None, Result, Ok, Err, IsErrOf, List, [], ◌∷◌, ◌++◌, length, length-append, sym, ap, subst, ◌∙◌, arith}
use Rattle.terms_prelude.specs.Terms.{Size, Statement, Header, Record, Reply, past_of, IsReply, AreReplies, records_of, records_of_all, without_tosses, Hearing, Proposal}
use Rattle.terms.specs.Reply.{Event as Happening}
use Rattle.disk.specs.declared.memory.MemDisk.{MemDisk}
use Rattle.journal.specs.Texts.{batch_records as records_in}
use Rattle.journal.specs.Words.{Batch, batch_body, header_text, batches_bytes, AreBatches}
use Rattle.journal.proofs.Texts.{length-header_text, length-body}
use Rattle.world.specs.Words.{World, Step, IsCorrect, IsAllowed, IsRun, start, in_doubt, after, after_all, Hears, AreWellFormedRecords}
use Rattle.world.proofs.Runs.{IsRun-append, after_all-append, hears_allowed, put-here}
use Rattle.world.proofs.Single.{decides_once, says_once}
use Rattle.world.proofs.Order.{reached_order, saved_formed}
use Rattle.world.proofs.Formed.{AreWellFormed-front}
use Rattle.member.specs.declared.fault.MemberFault.{MemberFault}
use Rattle.member.specs.declared.fault.MemberFault.TheVariants.{Stopped, Device, Memory, JournalFull, NoSuchQuestion, NoSuchMember}
use Rattle.member.specs.declared.member.Member.{Member}
use Rattle.member.specs.Words.{event_question, gate_after, IsFull, AllReply, AllCome, IsFullOfAll, MemberIsAt, LivesBy, Comes, Replies, world_step, memory_disk, IsSound, member_header, member_gate, member_saved, member_is_stopped}
use Rattle.member.proofs.Lives.{kept_step}
use Rattle.sim.specs.Presences.{MayCome, mine}
use Rattle.sim.proofs.Few.{few_records}
use Rattle.sim.proofs.Moves.{true_or_false}

-- a batch of at least one record has at most ten bytes a record
texts_below : (header : Header) (batches : List Batch) → AreBatches header batches → length (batches_bytes batches) ≤ 10 * length (records_in batches)
texts_below header [] good = omega arith
texts_below header (b ∷ bs) good =
    let some = good.0.some in
    omega (arith, texts_below header bs good.1, length-body b.records, length-append (batch_body b.records) (batches_bytes bs), length-append b.records (records_in bs))

-- so a journal on which all is on the disk isn't long
gate_below : (m : Member MemDisk) → IsSound memory_disk m → member_is_stopped m ≡ false → member_gate m ≤ 24 + 10 * length (member_saved m)
unfolding member_gate
gate_below m sound going =
    let held = (sound.filed.settled tt going).held in
    let records = ap (λ (l : List Record). length l) held.records_are in
    let gate = held.gate in
    omega (arith, gate, records, texts_below (member_header m) held.batches held.good, length-header_text (member_header m), length-append (header_text (member_header m)) (batches_bytes held.batches))

-- one step more
pub comes_after : (size : Size) (liars : ℕ → Bool) (w : World) (steps : List Step) → MayCome size liars w → IsRun size liars w steps → MayCome size liars (after_all w steps)
comes_after size liars w steps may run = record {
  steps = may.steps ++ steps;
  reached = record {
    lawful = may.reached.lawful;
    few = may.reached.few;
    is_run = IsRun-append size liars start may.steps steps may.reached.is_run (subst (λ (v : World). IsRun size liars v steps) may.world_is run);
  };
  world_is = ap (λ (v : World). after_all v steps) may.world_is ∙ sym (after_all-append start may.steps steps);
}

-- what a correct member comes to save isn't much
few_saved : (size : Size) (liars : ℕ → Bool) (w : World) (p : ℕ) → MayCome size liars w → IsCorrect size liars p → length (w.journal p) ≤ 75501568
few_saved size liars w p may correct =
    let r = may.reached in
    let last = after_all start may.steps in
    let formed : AreWellFormedRecords size (last.journal p) =
    AreWellFormed-front size (last.journal p) (in_doubt (last.doubt p)) (saved_formed size liars last (reached_order size liars r.lawful r.few may.steps r.is_run) p correct) in
    subst (λ (v : World). length (v.journal p) ≤ 75501568) (sym may.world_is)
    (few_records size r.lawful (last.journal p) formed
    (λ kind place. says_once size liars may.steps r.is_run p kind place correct)
    (λ question. decides_once size liars may.steps r.is_run p question correct))

-- A member that is up, and what it may come to save.
module _ (size : Size) (liars : ℕ → Bool) (p : ℕ) (w : World) (old : Member MemDisk) (correct : IsCorrect size liars p) (free : w.doubt p ≡ None)
    (may : MayCome size liars w) (sound : IsSound memory_disk old) (at : MemberIsAt memory_disk (mine size p) w old) where
  going : member_is_stopped old ≡ false
  going = go (true_or_false (member_is_stopped old))
    where
      go : (member_is_stopped old ≡ true) ⊎ (member_is_stopped old ≡ false) → member_is_stopped old ≡ false
      go (inl e) = let some = (at.down e).0.1 in cc (some, free)
      go (inr e) = e

  -- a batch that a step saves has room
  saved_fits : (next : Step) (batch : List Record) → IsAllowed size liars w next → (after w next).journal p ≡ w.journal p ++ batch → 2 ^ 31 < gate_after old (length batch) → ⊥
  saved_fits next batch allowed saves over =
      let few = few_saved size liars (after w next) p (comes_after size liars w (next ∷ []) may (allowed, tt)) correct in
      let journal = ap (λ (l : List Record). length l) saves in
      let both = length-append (w.journal p) batch in
      let saved = ap (λ (l : List Record). length l) at.records in
      let gate = gate_below old sound going in
      omega arith

  -- no group finds the journal full
  module _ (es : List (ℕ × Statement × ℕ)) (come : AllCome w es) where
    pub never_full_all : IsFullOfAll old es → ⊥
    never_full_all full =
        let replies : AllReply (mine size p) w es full.0 = λ question.
        subst (λ (h : Header). AreReplies (past_of h.size h.me question (w.journal p) (w.heard p)) es full.0) at.header_is (full.1 question (w.journal p) (w.heard p) (at.up going).1) in
        saved_fits (Hears p (without_tosses es) (records_of_all full.0) true) (records_of_all full.0)
        (hears_allowed size liars w p 0 es full.0 true correct free come (replies 0)) (put-here w.journal p (w.journal p ++ records_of_all full.0)) full.2

module _ (size : Size) (liars : ℕ → Bool) (p : ℕ) (w : World) (toss : ℕ) (event : Happening) (old : Member MemDisk) (correct : IsCorrect size liars p) (free : w.doubt p ≡ None)
    (may : MayCome size liars w) (sound : IsSound memory_disk old) (at : MemberIsAt memory_disk (mine size p) w old) (comes : Comes w event) where
  asked : (happens : Happening) → Comes w happens → IsAllowed size liars w (world_step p happens [] false) → event_question happens < size.questions
  asked (Hearing a s) sent allowed =
      let r = may.reached in
      ((reached_order size liars r.lawful r.few may.steps r.is_run).sent a s (rw may.world_is at sent)).1.question
  asked (Proposal question bit) sent allowed = allowed.2

  has_room : IsAllowed size liars w (world_step p event [] false) → IsFull old toss event → ⊥
  has_room allowed full =
      let reply = full.0 in
      let replies : Replies (mine size p) w toss event reply =
      subst (λ (h : Header). IsReply (past_of h.size h.me (event_question event) (w.journal p) (w.heard p)) toss event reply) at.header_is
      (full.1 (w.journal p) (w.heard p) (at.up (going size liars p w old correct free may sound at)).1) in
      let one = kept_step (mine size p) liars w toss event reply correct free comes (asked event comes allowed) replies in
      saved_fits size liars p w old correct free may sound at (world_step p event (records_of reply) true) (records_of reply) (one.allowed true) one.journal full.2

  -- no event finds the journal full
  pub never_full : {A : Type 0} (reply_in : A → Reply) (new : Member MemDisk) (answer : Result A MemberFault) → (IsErrOf answer JournalFull → IsFull old toss event)
      → LivesBy reply_in memory_disk (mine size p) liars w toss event answer old new → IsErrOf answer JournalFull → ⊥
  never_full reply_in new (Ok a) full lives e = cc
  never_full reply_in new (Err Stopped) full lives e = let f : ◌≡◌ {A = MemberFault} Stopped JournalFull = cc in cc
  never_full reply_in new (Err Device) full lives e = let f : ◌≡◌ {A = MemberFault} Device JournalFull = cc in cc
  never_full reply_in new (Err Memory) full lives e = let f : ◌≡◌ {A = MemberFault} Memory JournalFull = cc in cc
  never_full reply_in new (Err JournalFull) full lives e = has_room lives.0 (full e)
  never_full reply_in new (Err NoSuchQuestion) full lives e = let f : ◌≡◌ {A = MemberFault} NoSuchQuestion JournalFull = cc in cc
  never_full reply_in new (Err NoSuchMember) full lives e = let f : ◌≡◌ {A = MemberFault} NoSuchMember JournalFull = cc in cc
