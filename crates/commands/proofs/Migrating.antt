-- What bringing a journal over comes to for its command.
use Rattle.std.proofs.Common.{ℕ, ◌≡◌, ◌⊎◌, inr, ⊎_elim, ◌+◌, ◌<◌, ◌≤◌, ◌^◌, refl, sym, ap, subst, ◌∙◌, arith, List, length}
use Rattle.terms_prelude.specs.Terms.{Record, Header}
use Rattle.disk.specs.Model.{State, MayLeave, LeavesOnly}
use Rattle.disk.specs.declared.device.Disk.{Ghosts as DiskGhosts}
use Rattle.journal.specs.declared.journal.Journal.{Journal}
use Rattle.journal.specs.Drafts.{HasBegun}
use Rattle.journal.specs.Readers.{journal_disk}
use Rattle.journal.specs.Texts.{batches_bytes}
use Rattle.migration.specs.Faults.{IsFaultOfFinish, IsFaultOfPeeking}
use Rattle.migration.specs.Old.{HasOldHeader, HoldsOld, RefusesOld}
use Rattle.migration.specs.OldOutcomes.{IsUntouched}
use Rattle.migration.specs.Outcomes.{HasCarried, HasNotCarried}
use Rattle.migration.specs.Staged.{HasNotStaged, staging_draft, staging_header}
use Rattle.migration.specs.Thousands.{in_thousands}
use Rattle.migration.specs.declared.fault.MigrateFault.{MigrateFault}
use Rattle.migration.specs.declared.fault.MigrateFault.TheVariants.{NotEmpty, NotOld, OtherHeader, BadRecord, CutShort, OldDevice, NewDevice, Memory, Full}
use Rattle.migration.specs.declared.staging.Staging.{Staging}
use Rattle.migration.proofs.OldOne.{one_header}
use Rattle.commands.specs.Migrations.{HasMigrated, HasNotMigrated, IsWhyNot}

-- the old file's header was read, and the new file begun
module _ {D E : Type 0} (from : DiskGhosts D) (to : DiskGhosts E) (before peeked : D) (new : E) (header : Header) (staging : Staging E)
    (kept : from.keeps peeked → from.keeps before) (same : from.keeps peeked → from.state peeked ≡ from.state before)
    (begun : HasBegun to new header (staging_draft staging)) where
  pub migrated : (journal : Journal E) (count : ℕ) (after : D) → HasCarried from to staging peeked journal count after → HasMigrated from to before after new count (journal_disk journal)
  migrated journal count after carried = record {
    header = staging_header staging;
    records = carried.records;
    count_is = carried.count_is;
    held = λ keeps. subst (λ (s : State). HoldsOld (staging_header staging) carried.records s.seen) (same (carried.read.kept keeps)) (carried.held keeps);
    was_empty = λ keeps. begun.was_empty (carried.filled.kept keeps);
    written = carried.filled.written;
    durable = carried.filled.durable;
    quiet = carried.filled.quiet ∙ begun.quiet;
    kept = λ keeps. begun.kept (carried.filled.kept keeps);
  }

  cause_of : (why : MigrateFault) (disk : E) (after : D) → from.failures before ≤ from.failures peeked
      → (from.keeps peeked → HasOldHeader header (from.state before).seen) → HasNotCarried from to staging peeked why disk after → IsWhyNot from to before after new why disk
  cause_of NotEmpty disk after later has not = absurd not.only
  cause_of NotOld disk after later has not = λ keeps.
      subst (λ (s : State). RefusesOld (staging_header staging) NotOld s.seen) (same (not.untouched.kept keeps)) (not.refused keeps tt)
  cause_of OtherHeader disk after later has not = λ keeps.
      let other = subst (λ (s : State). RefusesOld (staging_header staging) OtherHeader s.seen) (same (not.untouched.kept keeps)) (not.refused keeps tt) in
      other.2 (one_header other.0 header (from.state before).seen other.1 (has (not.untouched.kept keeps)) ∙ sym begun.header_is)
  cause_of BadRecord disk after later has not = λ keeps. (
    staging_header staging,
    subst (λ (s : State). RefusesOld (staging_header staging) BadRecord s.seen) (same (not.untouched.kept keeps)) (not.refused keeps tt),
  )
  cause_of CutShort disk after later has not = λ keeps. (
    staging_header staging,
    subst (λ (s : State). RefusesOld (staging_header staging) CutShort s.seen) (same (not.untouched.kept keeps)) (not.refused keeps tt),
  )
  cause_of OldDevice disk after later has not = omega (arith, later, not.old_device refl)
  cause_of NewDevice disk after later has not = omega (arith, begun.quiet, not.new_device refl)
  cause_of Memory disk after later has not = tt
  cause_of Full disk after later has not = λ keeps.
      let full = not.full keeps refl in (
        staging_header staging,
        full.0,
        subst (λ (s : State). HoldsOld (staging_header staging) full.0 s.seen) (same (not.untouched.kept keeps)) full.1,
        omega (arith, begun.gate_is, full.2),
      )

  pub not_migrated : (why : MigrateFault) (disk : E) (after : D) → from.failures before ≤ from.failures peeked
      → (from.keeps peeked → HasOldHeader header (from.state before).seen) → HasNotCarried from to staging peeked why disk after → HasNotMigrated from to before after new why disk
  not_migrated why disk after later has not = record {
    cause = cause_of why disk after later has not;
    not_empty_same = λ keeps is. absurd (never why is not.only);
    later = omega (arith, begun.quiet, not.later);
    kept = λ keeps. begun.kept (not.kept keeps);
  }
    where
      never : (why : MigrateFault) → why ≡ NotEmpty → IsFaultOfFinish why → ⊥
      never why is only = subst (λ (w : MigrateFault). IsFaultOfFinish w) is only

-- the new file wasn't begun
pub not_begun : {D E : Type 0} (from : DiskGhosts D) (to : DiskGhosts E) (before after : D) (new : E) (header : Header) (why : MigrateFault) (disk : E)
    → HasNotStaged to new header why disk → HasNotMigrated from to before after new why disk
not_begun {D} {E} from to before after new header why disk not = record {
  cause = ⊎_elim
      (λ is. subst (λ (w : MigrateFault). IsWhyNot from to before after new w disk) (sym is) (λ keeps. not.not_empty keeps is))
      (λ is. subst (λ (w : MigrateFault). IsWhyNot from to before after new w disk) (sym is) (not.device is))
      not.only;
  not_empty_same = not.not_empty_same;
  later = not.later;
  kept = not.kept;
}

-- the old file is none of version 1
pub unread : {D E : Type 0} (from : DiskGhosts D) (to : DiskGhosts E) (before after : D) (new : E) (why : MigrateFault) → IsFaultOfPeeking why
    → (why ≡ NotOld → from.keeps after → (header : Header) → HasOldHeader header (from.state before).seen → ⊥)
    → (why ≡ OldDevice → from.failures before < from.failures after) → HasNotMigrated from to before after new why new
unread {D} {E} from to before after new why only not_old device = record {
  cause = go why only not_old device;
  not_empty_same = λ keeps is. refl;
  later = omega arith;
  kept = λ keeps. keeps;
}
  where
    go : (w : MigrateFault) → IsFaultOfPeeking w → (w ≡ NotOld → from.keeps after → (header : Header) → HasOldHeader header (from.state before).seen → ⊥)
        → (w ≡ OldDevice → from.failures before < from.failures after) → IsWhyNot from to before after new w new
    go NotEmpty of not_old device = absurd of
    go NotOld of not_old device = not_old refl
    go OtherHeader of not_old device = absurd of
    go BadRecord of not_old device = absurd of
    go CutShort of not_old device = absurd of
    go OldDevice of not_old device = device refl
    go NewDevice of not_old device = absurd of
    go Memory of not_old device = tt
    go Full of not_old device = absurd of

-- one run of calls behind another
pub then_leaves : {D : Type 0} {moment : D → ℕ} {since : D → ℕ → List ℕ → Type 0} {old mid new : D} {P : List ℕ → Type 0} → LeavesOnly moment since old mid P → LeavesOnly moment since mid new P → LeavesOnly moment since old new P
then_leaves {D} {moment} {since} {old} {mid} {new} {P} first second = record {
  later = omega (arith, first.later, second.later);
  each = λ file left. ⊎_elim (λ was. first.each file was) (λ now. now) (second.before (moment old) file first.later left);
  before = λ t file le left. ⊎_elim (λ was. first.before t file le was) (λ now. inr now) (second.before t file (omega (arith, le, first.later)) left);
}

-- the old file was looked at once, and then again
pub still_untouched : {D : Type 0} (from : DiskGhosts D) (before peeked after : D) → from.failures before ≤ from.failures peeked → (from.keeps peeked → from.keeps before)
    → (from.keeps peeked → from.state peeked ≡ from.state before) → (from.keeps peeked → LeavesOnly from.moment from.since before peeked (MayLeave (from.state before)))
    → IsUntouched from peeked after → IsUntouched from before after
still_untouched {D} from before peeked after later kept same any_moment untouched = record {
  same = λ keeps. untouched.same keeps ∙ ap (λ (s : State). s.seen) (same (untouched.kept keeps));
  any_moment = λ keeps.
      then_leaves (any_moment (untouched.kept keeps))
      (subst (λ (s : State). LeavesOnly from.moment from.since peeked after (MayLeave s)) (same (untouched.kept keeps)) (untouched.any_moment keeps));
  later = omega (arith, later, untouched.later);
  kept = λ keeps. kept (untouched.kept keeps);
}
