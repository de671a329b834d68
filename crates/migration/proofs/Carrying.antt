-- What bringing a journal over comes to, as the contracts say it.
use Rattle.std.proofs.Common.{◌≡◌, ◌⊎◌, inl, inr, ℕ, List, [], refl, sym, ◌∙◌, ap, subst, arith}
use Rattle.terms_prelude.specs.Terms.{Record, Header}
use Rattle.disk.specs.Model.{MayLeave, LeavesOnly, at_rest}
use Rattle.disk.specs.declared.device.Disk.{Ghosts as DiskGhosts}
use Rattle.disk.proofs.Moments.{started, leaves_more}
use Rattle.journal.specs.declared.draft.Draft.{Draft}
use Rattle.journal.specs.declared.journal.Journal.{Journal}
use Rattle.journal.proofs.Drafts.{draft_no_journal}
use Rattle.migration.specs.declared.staging.Staging.{Staging}
use Rattle.migration.specs.Words.{MigrateFault, NotEmpty, NotOld, OtherHeader, BadRecord, CutShort, OldDevice, NewDevice, Memory, Full, HoldsOld, IsOfOldFile, HandsOldBack, IsFaultOfReading, IsFaultOfFilling, IsFaultOfFinish, WasRead, Holds, HoldsAllOrNothing, IsAtRest, IsStaged, IsDraftOf, IsNoJournal, HasCompleted, HasNotCompleted, draft_disk, draft_header, batch_records, journal_text, in_thousands, staging_draft, staging_disk, staging_header, HasGrown, HasStopped, HasFilled, HasNotFilled, HasNotCarried, HoldsThose}
use Rattle.migration.proofs.Growing.{then_leaves, records_again, some_batches}
use Rattle.migration.proofs.OldOutcomes.{read_untouched}

-- the faults of reading the old file, and of filling the new one
finishing : (fault : MigrateFault) → IsFaultOfReading fault → IsFaultOfFinish fault
finishing NotEmpty only = absurd only
finishing NotOld only = tt
finishing OtherHeader only = tt
finishing BadRecord only = tt
finishing CutShort only = tt
finishing OldDevice only = tt
finishing NewDevice only = absurd only
finishing Memory only = tt
finishing Full only = absurd only

not_new : (fault : MigrateFault) → IsFaultOfReading fault → (fault ≡ NewDevice) ⊎ (fault ≡ Full) → ⊥
not_new fault only (inl is) = subst IsFaultOfReading is only
not_new fault only (inr is) = subst IsFaultOfReading is only

filling_so : (fault : MigrateFault) → IsFaultOfFilling fault → IsFaultOfFinish fault × (IsOfOldFile fault → ⊥) × (fault ≡ OldDevice → ⊥)
filling_so NotEmpty only = absurd only
filling_so NotOld only = absurd only
filling_so OtherHeader only = absurd only
filling_so BadRecord only = absurd only
filling_so CutShort only = absurd only
filling_so OldDevice only = absurd only
filling_so NewDevice only = (tt, (λ of_file. of_file), (λ is. cc is))
filling_so Memory only = (tt, (λ of_file. of_file), (λ is. cc is))
filling_so Full only = (tt, (λ of_file. of_file), (λ is. cc is))

module _ {E : Type 0} (disk : DiskGhosts E) (old : Draft E) (records : List Record) (drafted : disk.keeps (draft_disk old) → IsDraftOf disk.state [] old) where
  -- a file that is no journal's is none, and one that holds the batches' records holds these
  abbrev AllOrNothing : List ℕ → Type 0
  AllOrNothing file = IsNoJournal file ⊎ Holds (draft_header old) records file

  module _ (mid : Draft E) (grown : HasGrown disk old (in_thousands records) mid) where
    full_draft : disk.keeps (draft_disk mid) → IsDraftOf disk.state (in_thousands records) mid
    full_draft keeps = grown.added keeps (drafted (grown.kept keeps))

    -- what holds of the header and the batches of the draft holds of those that were asked
    as_asked : (P : Header → List Record → Type 0) → P (draft_header mid) (batch_records (in_thousands records)) → P (draft_header old) records
    as_asked P has =
        subst (λ (l : List Record). P (draft_header old) l) (records_again records)
        (subst (λ (h : Header). P h (batch_records (in_thousands records))) grown.header_is has)

    so_far : disk.keeps (draft_disk mid) → LeavesOnly disk.moment disk.since (draft_disk old) (draft_disk mid) AllOrNothing
    so_far keeps = leaves_more AllOrNothing (λ file none. inl none) (grown.any_moment keeps)

    -- it was made a journal
    pub filled : (journal : Journal E) → HasCompleted disk mid journal → HasFilled disk old records journal
    filled journal done =
        let header = draft_header old in
        let batches = in_thousands records in
        record {
          settled = λ keeps. as_asked (λ h l. IsAtRest disk.state h l journal) (done.settled keeps batches (full_draft (done.kept keeps)));
          written = λ keeps. done.written keeps batches (full_draft (done.kept keeps)) ∙ ap (λ (h : Header). at_rest (journal_text h batches)) grown.header_is;
          durable = λ keeps file may. as_asked (λ h l. Holds h l file) (done.durable keeps batches (full_draft (done.kept keeps)) file may);
          any_moment = λ keeps.
              then_leaves (so_far (done.kept keeps))
              (leaves_more AllOrNothing (λ file. as_asked (λ h l. HoldsAllOrNothing (draft_header mid) batches file → IsNoJournal file ⊎ Holds h l file) (λ is. is)) (done.any_moment keeps batches (full_draft (done.kept keeps))));
          calls = λ keeps. omega (arith, done.two_calls keeps, grown.calls (done.kept keeps));
          room = λ some. omega (arith, grown.gate_is, grown.room (some_batches records some));
          quiet = done.quiet ∙ grown.quiet;
          kept = λ k. grown.kept (done.kept k);
        }

    -- its first byte couldn't be written
    pub not_completed : (after : E) → HasNotCompleted disk mid after → HasNotFilled disk old records NewDevice after
    not_completed after not =
        let batches = in_thousands records in
        record {
          only = tt;
          any_moment = λ keeps.
              then_leaves (so_far (not.kept keeps))
              (leaves_more AllOrNothing (λ file. as_asked (λ h l. HoldsAllOrNothing (draft_header mid) batches file → IsNoJournal file ⊎ Holds h l file) (λ is. is)) (not.any_moment keeps batches (full_draft (not.kept keeps))));
          device = λ _. omega (arith, not.cause, grown.quiet);
          full = λ is. absurd (cc is);
          later = omega (arith, not.cause, grown.quiet);
          kept = λ k. grown.kept (not.kept k);
        }

  -- its records couldn't be added
  pub not_added : (new : Draft E) (fault : MigrateFault) (after : E) → after ≡ draft_disk new → HasStopped disk old records fault new → HasNotFilled disk old records fault after
  not_added new fault after is stopped =
      subst (λ (d : E). HasNotFilled disk old records fault d) (sym is) (record {
        only = stopped.only;
        any_moment = λ keeps. leaves_more AllOrNothing (λ file none. inl none) (stopped.any_moment keeps);
        device = stopped.device;
        full = stopped.full;
        later = stopped.later;
        kept = stopped.kept;
      })

module _ {D E : Type 0} (from : DiskGhosts D) (to : DiskGhosts E) (staging : Staging E) (before after : D) where
  -- the old file wasn't read
  pub not_read : ((d : E) (file : List ℕ) → to.keeps d → to.since d (to.moment d) file → MayLeave (to.state d) file) → (to.keeps (staging_disk staging) → IsStaged to.state staging)
      → (fault : MigrateFault) (disk : E) → disk ≡ staging_disk staging → HandsOldBack from before (staging_header staging) fault after → HasNotCarried from to staging before fault disk after
  not_read only_now staged fault disk is back =
      subst (λ (d : E). HasNotCarried from to staging before fault d after) (sym is) (record {
        only = finishing fault back.only;
        any_moment = λ reads keeps.
            started to.moment to.since to.state (staging_disk staging) (λ file. IsNoJournal file ⊎ HoldsThose from (staging_header staging) before file)
            (λ f left. inl (draft_no_journal to.state [] (staging_draft staging) (staged keeps) f (only_now (staging_disk staging) f keeps left)));
        refused = back.refused;
        full = λ keeps e. absurd (not_new fault back.only (inr e));
        old_device = back.device;
        new_device = λ e. absurd (not_new fault back.only (inl e));
        no_call = λ _. refl;
        untouched = back.untouched;
        later = omega arith;
        kept = λ k. k;
      })

  -- it was, and the new file couldn't be filled
  pub not_filled : (records : List Record) (fault : MigrateFault) (disk : E) → (from.keeps after → HoldsOld (staging_header staging) records (from.state before).seen)
      → WasRead from before after → HasNotFilled to (staging_draft staging) records fault disk → HasNotCarried from to staging before fault disk after
  not_filled records fault disk held read not =
      let so = filling_so fault not.only in
      record {
        only = so.0;
        any_moment = λ reads keeps.
            leaves_more (λ (file : List ℕ). IsNoJournal file ⊎ HoldsThose from (staging_header staging) before file)
            (λ file is. elim is [ inl none ↦ inl none | inr holds ↦ inr (record { records = records; held = held reads; holds = holds }) ]) (not.any_moment keeps);
        refused = λ keeps of_file. absurd (so.1 of_file);
        full = λ keeps e. (records, held keeps, not.full e);
        old_device = λ e. absurd (so.2 e);
        new_device = not.device;
        no_call = λ e. elim e [ inl of_file ↦ absurd (so.1 of_file) | inr device ↦ absurd (so.2 device) ];
        untouched = read_untouched from before after read;
        later = not.later;
        kept = not.kept;
      }
