-- What stands after the private calls by which a member saves a batch and keeps what its core answered.
use Rattle.std.specs.Prelude.{ℕ, ◌≡◌, ◌⊎◌, ◌+◌, ◌*◌, ◌<◌, ◌≤◌, ◌^◌, Result, Ok, Err, IfOk, IfErr, IsOk, IsErr, OnOk, OnErr, IsErrOf, false, true, List, ◌++◌, length, take}
use Rattle.std.specs.Global.{Vec}
use Rattle.terms.specs.declared.Memory.{Memory as NoMemory}
use Rattle.terms_prelude.specs.Terms.{Record, Reply, records_of}
use Rattle.disk.specs.Model.{LeavesOnly}
use Rattle.disk.specs.declared.device.Disk.{Ghosts as DiskGhosts}
use Rattle.journal.specs.declared.fault.JournalFault.{JournalFault}
use Rattle.journal.specs.declared.fault.JournalFault.TheVariants as appending
use Rattle.journal.specs.declared.journal.Journal.{Journal}
use Rattle.journal.specs.Faults.{IsFaultOfAppend}
use Rattle.journal.specs.File.{Holds}
use Rattle.journal.specs.Readers.{journal_disk, journal_header, journal_gate, journal_is_stopped, IsAtRest}
use Rattle.questions.specs.declared.Core.{Core}
use Rattle.questions.specs.declared.answer.Answer.{Answer}
use Rattle.questions.specs.declared.answer.CoreFault.{CoreFault}
use Rattle.member.specs.declared.fault.MemberFault.{MemberFault}
use Rattle.member.specs.declared.fault.MemberFault.TheVariants.{Device, Memory, JournalFull}
use Rattle.member.specs.declared.group.GroupAnswer.{GroupAnswer}
use Rattle.member.specs.declared.member.Member.{Member}
use Rattle.member.specs.declared.sealed.Sealed.{Sealed}
use Rattle.member.specs.Answers.{gate_after}
use Rattle.member.specs.Faults.{member_fault, Stops}
use Rattle.member.specs.Readers.{member_disk, member_header, member_gate, member_saved, member_is_stopped}
use Rattle.member.specs.Sealed.{sealed_from}
use Rattle.member.specs.Sound.{IsFiled}

-- all of the list where a call went well, and with a fault what stood before
abbrev pub all_or_front : {A F : Type 0} → Result A F → ℕ → List Record → List Record
all_or_front (Ok done) before records = records
all_or_front (Err fault) before records = take before records

-- The batch was added to the journal, and then its records and statements to the lists; or, with the fault, to none of
-- them. A crash within the call leaves the file with the whole batch or without it.
pub record SavesBatch {D : Type 0} (disk : DiskGhosts D) (batch : List Record) (result : Result (Unit {0}) JournalFault)
    (old new : Journal D) (before after : List Record) (handed_out hands_out : List Sealed) : Type 0 where
  pub records : OnOk result (after ≡ before ++ batch)
  pub same : OnErr result (after ≡ before)
  pub sealed : hands_out ≡ sealed_from 0 after
  pub same_outbox : OnErr result (hands_out ≡ handed_out)
  pub running : OnOk result (journal_is_stopped new ≡ false)
  pub settled : disk.keeps (journal_disk new) → OnOk result (IsAtRest disk.state (journal_header old) (before ++ batch) new)
  pub any_moment : disk.keeps (journal_disk new) → LeavesOnly disk.moment disk.since (journal_disk old) (journal_disk new)
      (λ file. Holds (journal_header old) before file ⊎ Holds (journal_header old) (before ++ batch) file)
  pub four_calls : disk.keeps (journal_disk new) → 0 < length batch → OnOk result (disk.moment (journal_disk new) ≡ disk.moment (journal_disk old) + 4)
  pub gate : 0 < length batch → OnOk result (journal_gate new ≡ journal_gate old + 3 + 6 * length batch)
  -- an empty batch changes nothing
  pub nothing : length batch ≡ 0 → OnOk result (new ≡ old)
  pub some : IfErr result (λ _. 0 < length batch)
  -- each fault has its cause
  pub full : IsErrOf result appending.Full → 2 ^ 31 < journal_gate old + 3 + 6 * length batch
  pub room : 0 < length batch → OnOk result (journal_gate old + 3 + 6 * length batch ≤ 2 ^ 31)
  pub device : IsErrOf result appending.Device → disk.failures (journal_disk old) < disk.failures (journal_disk new)
  pub not_stopped : IsErrOf result appending.Stopped → ⊥
  pub only : IfErr result IsFaultOfAppend
  pub same_journal : (IsErrOf result appending.Device → ⊥) → IsErr result → new ≡ old
  -- however it ended
  pub header : journal_header new ≡ journal_header old
  pub later : disk.failures (journal_disk old) ≤ disk.failures (journal_disk new)
  pub kept : disk.keeps (journal_disk new) → disk.keeps (journal_disk old)

-- What a core, now this one, answered was kept, where this was saved before: the records of the answer's reply were saved as
-- one batch and the answer is given; or with a fault, which stops the member where the core didn't refuse the event, nothing was.
pub record KeptBehind {A D : Type 0} (disk : DiskGhosts D) (before : List Record) (old : Member D) (core : Core) (reply_in : A → Reply) (answer : Result A CoreFault) (result : Result A MemberFault) (new : Member D) : Type 0 where
  pub filed : IsFiled disk new
  pub answer_is : IfOk result (λ a. answer ≡ Ok a)
  pub saved : IfOk result (λ a. member_saved new ≡ before ++ records_of (reply_in a))
  pub same : OnErr result (member_saved new ≡ before)
  pub core_is : new.core ≡ core
  pub header : member_header new ≡ member_header old
  pub going : OnOk result (member_is_stopped new ≡ false)
  pub any_moment : disk.keeps (member_disk new) → IfOk answer (λ a. LeavesOnly disk.moment disk.since (member_disk old) (member_disk new)
      (λ file. Holds (member_header old) (before) file ⊎ Holds (member_header old) (before ++ records_of (reply_in a)) file))
  pub refused : IfErr answer (λ _. member_disk new ≡ member_disk old)
  pub told_is : IfErr answer (λ fault. IsErrOf result (member_fault fault))
  pub stopping : IfOk answer (λ _. IfErr result Stops)
  pub unchanged : IfErr result (λ fault. (Stops fault → ⊥) → new ≡ record old { core = core })
  pub stops : IfErr result (λ fault. Stops fault → member_is_stopped new ≡ true)
  pub same_disk : IsErrOf result Memory ⊎ IsErrOf result JournalFull → member_disk new ≡ member_disk old
  pub memory : IsErrOf result Memory → IfOk answer (λ a. 0 < length (records_of (reply_in a)))
  pub full : IsErrOf result JournalFull → (a : A) × (answer ≡ Ok a) × (2 ^ 31 < gate_after old (length (records_of (reply_in a))))
  pub no_call : IfOk result (λ a. length (records_of (reply_in a)) ≡ 0 → member_disk new ≡ member_disk old)
  pub room : IfOk result (λ a. 0 < length (records_of (reply_in a)) → member_gate new ≡ gate_after old (length (records_of (reply_in a))))
  pub within : IfOk result (λ a. 0 < length (records_of (reply_in a)) → member_gate new ≤ 2 ^ 31)
  pub device : IsErrOf result Device → disk.failures (member_disk old) < disk.failures (member_disk new)
  pub failures : disk.failures (member_disk old) ≤ disk.failures (member_disk new)
  pub kept : disk.keeps (member_disk new) → disk.keeps (member_disk old)

-- the same, where all that the member has is what was saved before
abbrev pub Kept : {A D : Type 0} → DiskGhosts D → Member D → Core → (A → Reply) → Result A CoreFault → Result A MemberFault → Member D → Type 0
Kept disk old core reply_in answer result new = KeptBehind disk (member_saved old) old core reply_in answer result new

-- What a core, now this one, answered to a group was kept: the records of all answers were saved as one batch and the
-- answers are given; or with a fault, which stops the member, nothing was.
pub record KeptAll {D : Type 0} (disk : DiskGhosts D) (old : Member D) (core : Core) (heard : Result GroupAnswer NoMemory) (result : Result (Vec Answer) MemberFault) (new : Member D) : Type 0 where
  pub filed : IsFiled disk new
  pub answers_are : IfOk result (λ answers. IfOk heard (λ group. answers ≡ group.answers))
  pub heard_is : OnOk result (IsOk heard)
  pub saved : OnOk result (IfOk heard (λ group. member_saved new ≡ member_saved old ++ group.records.items))
  pub same : OnErr result (member_saved new ≡ member_saved old)
  pub core_is : new.core ≡ core
  pub header : member_header new ≡ member_header old
  pub going : OnOk result (member_is_stopped new ≡ false)
  pub any_moment : disk.keeps (member_disk new) → IfOk heard (λ group. LeavesOnly disk.moment disk.since (member_disk old) (member_disk new)
      (λ file. Holds (member_header old) (member_saved old) file ⊎ Holds (member_header old) (member_saved old ++ group.records.items) file))
  pub refused : IfErr heard (λ _. member_disk new ≡ member_disk old)
  pub told_is : IfErr heard (λ _. IsErrOf result Memory)
  pub stopping : IfErr result Stops
  pub stops : OnErr result (member_is_stopped new ≡ true)
  pub same_disk : IsErrOf result Memory ⊎ IsErrOf result JournalFull → member_disk new ≡ member_disk old
  pub memory : IsErrOf result Memory → IfOk heard (λ group. 0 < length group.records.items)
  pub no_call : OnOk result (IfOk heard (λ group. length group.records.items ≡ 0 → member_disk new ≡ member_disk old))
  pub four_calls : disk.keeps (member_disk new) → OnOk result (IfOk heard (λ group.
      0 < length group.records.items → disk.moment (member_disk new) ≡ disk.moment (member_disk old) + 4))
  pub full : IsErrOf result JournalFull → IsOk heard × IfOk heard (λ group. 2 ^ 31 < gate_after old (length group.records.items))
  pub room : OnOk result (IfOk heard (λ group. 0 < length group.records.items → member_gate new ≡ gate_after old (length group.records.items)))
  pub within : OnOk result (IfOk heard (λ group. 0 < length group.records.items → member_gate new ≤ 2 ^ 31))
  pub device : IsErrOf result Device → disk.failures (member_disk old) < disk.failures (member_disk new)
  pub failures : disk.failures (member_disk old) ≤ disk.failures (member_disk new)
  pub kept : disk.keeps (member_disk new) → disk.keeps (member_disk old)
