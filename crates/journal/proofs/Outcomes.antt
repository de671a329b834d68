-- What a call comes to, as its contract says it.
use Rattle.std.proofs.Common.{◌≡◌, ◌⊎◌, inl, inr, ℕ, Result, Ok, Err, IfOk, IfErr, false, List, sym, ◌∙◌, ap, subst, arith}
use Rattle.terms_prelude.specs.Terms.{Record, Header}
use Rattle.disk.specs.Model.{State, at_rest}
use Rattle.disk.specs.declared.device.Disk.{Ghosts as DiskGhosts}
use Rattle.journal.specs.Words.{JournalFault, NotEmpty, BadHeader, OtherHeader, BadRecord, CutShort, Device, Memory, Stopped, Full, OldVersion, IsFaultOfOpening, IsOfFile, RefusesFile, Holds, IsHeld, WasRead, HandsBack, HasOpened, Journal, journal_disk, journal_header, journal_gate, journal_is_stopped}
use Rattle.journal.proofs.Held.{held_holds, left_holds}

-- what was read has a fault, or there was no memory for its records
pub refused_after : {A D : Type 0} (disk : DiskGhosts D) (before after : D) (header : Header) (bytes : List ℕ) (result : Result A JournalFault) → WasRead disk before after
    → (disk.keeps after → bytes ≡ (disk.state before).seen) → IfErr result (λ fault. IsOfFile fault → RefusesFile header fault bytes)
    → IfErr result (λ fault. IsOfFile fault ⊎ (fault ≡ Memory)) → IfErr result (λ fault. HandsBack disk before header fault after)
refused_after disk before after header bytes (Ok a) read is refused only = tt
refused_after disk before after header bytes (Err f) read is refused only = record {
  only = opening f refused only;
  refused = λ keeps of_file. subst (λ (l : List ℕ). RefusesFile header f l) (is keeps) (refused of_file);
  same = λ keeps. ap (λ (s : State). s.seen) (read.on_disk keeps);
  any_moment = read.any_moment;
  three_calls = λ keeps of_file. read.three_calls keeps;
  device = λ device. absurd (not_device f only device);
  quiet = λ _. read.quiet;
  later = omega (arith, read.quiet);
  kept = read.kept;
}
  where
    opening : (fault : JournalFault) → (IsOfFile fault → RefusesFile header fault bytes) → IsOfFile fault ⊎ (fault ≡ Memory) → IsFaultOfOpening fault
    opening NotEmpty why (inl of_file) = absurd (why of_file)
    opening BadHeader why (inl of_file) = tt
    opening OtherHeader why (inl of_file) = tt
    opening BadRecord why (inl of_file) = tt
    opening CutShort why (inl of_file) = tt
    opening Device why (inl of_file) = tt
    opening Memory why (inl of_file) = tt
    opening Stopped why (inl of_file) = absurd of_file
    opening Full why (inl of_file) = absurd of_file
    opening OldVersion why (inl of_file) = tt
    opening fault why (inr memory) = subst IsFaultOfOpening (sym memory) tt

    not_device : (fault : JournalFault) → IsOfFile fault ⊎ (fault ≡ Memory) → fault ≡ Device → ⊥
    not_device fault (inl of_file) is = subst IsOfFile is of_file
    not_device fault (inr memory) is = let both : Memory ≡ Device = sym memory ∙ is in cc

-- what was read is held
pub held_after : {A : Type 0} {D : Type 0} (disk : DiskGhosts D) (before after : D) (header : Header) (bytes : List ℕ) (gate : A → ℕ) (records : A → List Record) (result : Result A JournalFault) → WasRead disk before after
    → (disk.keeps after → bytes ≡ (disk.state before).seen) → IfOk result (λ held. IsHeld (at_rest bytes) header (gate held) (records held))
    → disk.keeps after → IfOk result (λ held. IsHeld (disk.state after) header (gate held) (records held))
held_after disk before after header bytes gate records (Err f) read is held keeps = tt
held_after disk before after header bytes gate records (Ok a) read is held keeps =
    subst (λ (s : State). IsHeld s header (gate a) (records a)) (ap at_rest (is keeps) ∙ sym (read.on_disk keeps)) held

-- the disk that was read is a journal's now
pub opened_with : {D : Type 0} (disk : DiskGhosts D) (before after : D) (header : Header) (gate : ℕ) (records : List Record) (journal : Journal D) → journal_disk journal ≡ after → journal_gate journal ≡ gate
    → journal_header journal ≡ header → journal_is_stopped journal ≡ false → WasRead disk before after → (disk.keeps after → IsHeld (disk.state after) header gate records) → HasOpened disk before header records journal
opened_with {D} disk before after header gate records journal disk_is gate_is header_is running was_read was_held =
    let read : WasRead disk before (journal_disk journal) = subst (λ (d : D). WasRead disk before d) (sym disk_is) was_read in
    let held : disk.keeps (journal_disk journal) → IsHeld (disk.state (journal_disk journal)) header (journal_gate journal) records =
    λ keeps. subst (λ (d : D). IsHeld (disk.state d) header (journal_gate journal) records) (sym disk_is)
    (subst (λ (n : ℕ). IsHeld (disk.state after) header n records) (sym gate_is) (was_held (subst (λ (d : D). disk.keeps d) disk_is keeps))) in
    record {
      settled = λ keeps. record { running = running; header_is = header_is; held = held keeps };
      held = λ keeps.
          subst (λ (file : List ℕ). Holds header records file) (ap (λ (s : State). s.seen) (read.on_disk keeps))
          (held_holds (disk.state (journal_disk journal)) header (journal_gate journal) records (held keeps));
      durable = λ keeps file may. left_holds (disk.state (journal_disk journal)) header (journal_gate journal) records (held keeps) file may;
      on_disk = read.on_disk;
      any_moment = read.any_moment;
      three_calls = read.three_calls;
      running = running;
      header_is = header_is;
      quiet = read.quiet;
      later = omega (arith, read.quiet);
      begun = read.begun;
      kept = read.kept;
    }
