-- How a new file grows, batch by batch, and what a crash leaves of it.
use Rattle.std.proofs.Common.{◌≡◌, inl, inr, ⊎_elim, ℕ, zero, suc, ◌+◌, ◌*◌, ◌<◌, ◌≤◌, ◌^◌, min, List, [], ◌∷◌, ◌++◌, length, take, drop, refl, sym, ◌∙◌, ap, arith, append-nil, append_assoc, length-append, length-drop, take-append-drop, take_at, drop_at}
use Rattle.std.proofs.lemmas.Bool.{cases_lt}
use Rattle.std.proofs.lemmas.List.{nil_from_length, take_all, drop_all}
use Rattle.std.proofs.lemmas.List.Concat.{flat_map-append}
use Rattle.std.specs.List.{AllByRecursion}
use Rattle.terms_prelude.specs.Terms.{Record}
use Rattle.disk.specs.Model.{MayLeave, LeavesOnly}
use Rattle.disk.specs.declared.device.Disk.{Ghosts as DiskGhosts}
use Rattle.disk.proofs.Moments.{started}
use Rattle.journal.specs.declared.draft.Draft.{Draft}
use Rattle.journal.specs.declared.fault.JournalFault.{JournalFault}
use Rattle.journal.specs.declared.fault.JournalFault.TheVariants as journal
use Rattle.journal.specs.Faults.{IsFaultOfAdding}
use Rattle.journal.proofs.Drafts.{draft_no_journal}
use Rattle.journal.proofs.Texts.{texts-push, length-body}
use Rattle.migration.specs.Words.{NewDevice, Full, Batch, batch_bytes, batch_records, batches_bytes, new_batch, thousands, in_thousands, IsDraftOf, IsNoJournal, draft_disk, draft_header, draft_gate, IsFaultOfFilling, new_fault_of, HasGrown, HasStopped}

-- one run of calls behind another
pub then_leaves : {D : Type 0} {moment : D → ℕ} {since : D → ℕ → List ℕ → Type 0} {old mid new : D} {P : List ℕ → Type 0} → LeavesOnly moment since old mid P → LeavesOnly moment since mid new P → LeavesOnly moment since old new P
then_leaves {D} {moment} {since} {old} {mid} {new} {P} first second = record {
  later = omega (arith, first.later, second.later);
  each = λ file left. ⊎_elim (λ was. first.each file was) (λ now. now) (second.before (moment old) file first.later left);
  before = λ t file le left. ⊎_elim (λ was. first.before t file le was) (λ now. inr now) (second.before t file (omega (arith, le, first.later)) left);
}

-- both parts of what all has a property
pub all_parts : {X : Type 0} (P : X → Type 0) (xs ys : List X) → AllByRecursion P (xs ++ ys) → AllByRecursion P xs × AllByRecursion P ys
all_parts P [] ys all = (tt, all)
all_parts P (x ∷ xs) ys all =
    let behind = all_parts P xs ys all.1 in
    ((all.0, behind.0), behind.1)

-- more batches than are needed are as good
enough : (m n : ℕ) (rs : List Record) → length rs ≤ m → length rs ≤ n → thousands m rs ≡ thousands n rs
unfolding thousands
enough zero zero rs long long' = refl
enough zero (suc n) [] long long' = refl
enough zero (suc n) (r ∷ rs) long long' = absurd (omega (arith, long))
enough (suc m) zero [] long long' = refl
enough (suc m) zero (r ∷ rs) long long' = absurd (omega (arith, long'))
enough (suc m) (suc n) [] long long' = refl
enough (suc m) (suc n) (r ∷ rs) long long' =
    ap (λ (l : List Batch). new_batch (take 1000 (r ∷ rs)) ∷ l)
    (enough m n (drop 1000 (r ∷ rs)) (omega (arith, long, length-drop 1000 (r ∷ rs))) (omega (arith, long', length-drop 1000 (r ∷ rs))))

pub none_in_thousands : in_thousands [] ≡ []
unfolding in_thousands thousands
none_in_thousands = refl

-- a thousand in front, or all where there are fewer
front_and_rest : (all chunk rest : List Record) → all ≡ chunk ++ rest → length chunk ≡ min 1000 (length all) → (take 1000 all ≡ chunk) × (drop 1000 all ≡ rest)
front_and_rest all chunk rest parts size =
    let sum = ap (λ (l : List Record). length l) parts ∙ length-append chunk rest in
    elim (cases_lt (length all) 1000) [
      | inl short ↦
          let none : rest ≡ [] = nil_from_length rest (omega (arith, sum, size, short)) in
          let whole : all ≡ chunk = parts ∙ ap (λ (l : List Record). chunk ++ l) none ∙ append-nil chunk in
          (take_all 1000 all (omega (arith, short)) ∙ whole, drop_all 1000 all (omega (arith, short)) ∙ sym none)
      | inr long ↦
          let full : length chunk ≡ 1000 = omega (arith, size, long) in (
            ap (λ (l : List Record). take 1000 l) parts ∙ take_at chunk rest 1000 full,
            ap (λ (l : List Record). drop 1000 l) parts ∙ drop_at chunk rest 1000 full,
          )
    ]

pub next_thousand : (all chunk rest : List Record) → all ≡ chunk ++ rest → length chunk ≡ min 1000 (length all) → 0 < length all → in_thousands all ≡ new_batch chunk ∷ in_thousands rest
unfolding in_thousands thousands
next_thousand [] chunk rest parts size some = absurd (omega (arith, some))
next_thousand (r ∷ rs) chunk rest parts size some =
    let cut = front_and_rest (r ∷ rs) chunk rest parts size in
    let fewer : length (drop 1000 (r ∷ rs)) ≤ length rs = omega (arith, length-drop 1000 (r ∷ rs)) in
    (λ i. new_batch (cut.0 i) ∷ enough (length rs) (length (drop 1000 (r ∷ rs))) (drop 1000 (r ∷ rs)) fewer (omega arith) i)
    ∙ ap (λ (l : List Record). new_batch chunk ∷ in_thousands l) cut.1

-- their records are those that were cut
records_of : (m : ℕ) (rs : List Record) → length rs ≤ m → batch_records (thousands m rs) ≡ rs
unfolding thousands
records_of zero [] long = refl
records_of zero (r ∷ rs) long = absurd (omega (arith, long))
records_of (suc m) [] long = refl
records_of (suc m) (r ∷ rs) long =
    ap (λ (l : List Record). take 1000 (r ∷ rs) ++ l) (records_of m (drop 1000 (r ∷ rs)) (omega (arith, long, length-drop 1000 (r ∷ rs))))
    ∙ take-append-drop 1000 (r ∷ rs)

pub records_again : (rs : List Record) → batch_records (in_thousands rs) ≡ rs
unfolding in_thousands
records_again rs = records_of (length rs) rs (omega arith)

-- there are some where there is a record
pub some_batches : (rs : List Record) → 0 < length rs → 0 < length (in_thousands rs)
unfolding in_thousands thousands
some_batches [] some = absurd (omega (arith, some))
some_batches (r ∷ rs) some = omega arith

-- the faults of adding a batch
pub filling : (fault : JournalFault) → IsFaultOfAdding fault → IsFaultOfFilling (new_fault_of fault)
filling journal.NotEmpty only = absurd only
filling journal.BadHeader only = absurd only
filling journal.OtherHeader only = absurd only
filling journal.BadRecord only = absurd only
filling journal.CutShort only = absurd only
filling journal.Device only = tt
filling journal.Memory only = tt
filling journal.Stopped only = absurd only
filling journal.Full only = tt
filling journal.OldVersion only = absurd only

of_device : (fault : JournalFault) → IsFaultOfAdding fault → new_fault_of fault ≡ NewDevice → fault ≡ journal.Device
of_device journal.NotEmpty only is = absurd only
of_device journal.BadHeader only is = absurd only
of_device journal.OtherHeader only is = absurd only
of_device journal.BadRecord only is = absurd only
of_device journal.CutShort only is = absurd only
of_device journal.Device only is = refl
of_device journal.Memory only is = cc is
of_device journal.Stopped only is = absurd only
of_device journal.Full only is = cc is
of_device journal.OldVersion only is = absurd only

of_room : (fault : JournalFault) → IsFaultOfAdding fault → new_fault_of fault ≡ Full → fault ≡ journal.Full
of_room journal.NotEmpty only is = absurd only
of_room journal.BadHeader only is = absurd only
of_room journal.OtherHeader only is = absurd only
of_room journal.BadRecord only is = absurd only
of_room journal.CutShort only is = absurd only
of_room journal.Device only is = cc is
of_room journal.Memory only is = cc is
of_room journal.Stopped only is = absurd only
of_room journal.Full only is = refl
of_room journal.OldVersion only is = absurd only

-- the bytes of batches, one behind the other
length_front : (bs : List Batch) (b : Batch) (cs : List Batch) → length (batches_bytes bs) + 3 + 6 * length b.records ≤ length (batches_bytes (bs ++ b ∷ cs))
length_front bs b cs =
    omega (
      arith,
      ap (λ (l : List ℕ). length l) (flat_map-append batch_bytes bs (b ∷ cs)),
      length-append (batches_bytes bs) (batches_bytes (b ∷ cs)),
      length-append (batch_bytes b) (batches_bytes cs),
      length-body b.records,
    )

length_more : (bs : List Batch) (b : Batch) → length (batches_bytes (bs ++ b ∷ [])) ≡ length (batches_bytes bs) + 3 + 6 * length b.records
length_more bs b =
    omega (arith, ap (λ (l : List ℕ). length l) (texts-push bs b), length-append (batches_bytes bs) (batch_bytes b), length-body b.records)

module _ {E : Type 0} (disk : DiskGhosts E) where
  -- by nothing
  pub grown_none : ((d : E) (file : List ℕ) → disk.keeps d → disk.since d (disk.moment d) file → MayLeave (disk.state d) file) → (old : Draft E)
      → (disk.keeps (draft_disk old) → IsDraftOf disk.state [] old) → HasGrown disk old [] old
  grown_none only_now old drafted = record {
    added = λ keeps is. is;
    any_moment = λ keeps.
        started disk.moment disk.since disk.state (draft_disk old) IsNoJournal
        (λ f left. draft_no_journal disk.state [] old (drafted keeps) f (only_now (draft_disk old) f keeps left));
    calls = λ keeps. omega arith;
    header_is = refl;
    gate_is = omega arith;
    room = λ some. absurd (omega (arith, some));
    quiet = refl;
    kept = λ k. k;
  }

  -- by a batch more
  pub grown_more : (old mid new : Draft E) (done : List Batch) (records : List Record) → HasGrown disk old done mid
      → (disk.keeps (draft_disk new) → (batches : List Batch) → IsDraftOf disk.state batches mid → IsDraftOf disk.state (batches ++ new_batch records ∷ []) new)
      → (disk.keeps (draft_disk new) → LeavesOnly disk.moment disk.since (draft_disk mid) (draft_disk new) IsNoJournal)
      → (disk.keeps (draft_disk new) → disk.moment (draft_disk new) ≡ disk.moment (draft_disk mid) + 4)
      → draft_header new ≡ draft_header mid
      → draft_gate new ≡ draft_gate mid + 3 + 6 * length records
      → draft_gate mid + 3 + 6 * length records ≤ 2 ^ 31
      → disk.failures (draft_disk new) ≡ disk.failures (draft_disk mid)
      → (disk.keeps (draft_disk new) → disk.keeps (draft_disk mid))
      → HasGrown disk old (done ++ new_batch records ∷ []) new
  grown_more old mid new done records first added leaves calls header gate room quiet kept = record {
    added = λ keeps is. added keeps done (first.added (kept keeps) is);
    any_moment = λ keeps. then_leaves (first.any_moment (kept keeps)) (leaves keeps);
    calls = λ keeps. omega (arith, first.calls (kept keeps), calls keeps, length-append done (new_batch records ∷ []));
    header_is = header ∙ first.header_is;
    gate_is = omega (arith, gate, first.gate_is, length_more done (new_batch records));
    room = λ some. omega (arith, gate, room);
    quiet = quiet ∙ first.quiet;
    kept = λ k. first.kept (kept k);
  }

  -- not by the next batch
  pub stopped_at : (old mid new : Draft E) (done : List Batch) (chunk rest records : List Record) (fault : JournalFault) → HasGrown disk old done mid
      → (done ++ new_batch chunk ∷ []) ++ in_thousands rest ≡ in_thousands records
      → IsFaultOfAdding fault
      → (disk.keeps (draft_disk new) → LeavesOnly disk.moment disk.since (draft_disk mid) (draft_disk new) IsNoJournal)
      → (fault ≡ journal.Device → disk.failures (draft_disk mid) < disk.failures (draft_disk new))
      → (fault ≡ journal.Full → 2 ^ 31 < draft_gate mid + 3 + 6 * length chunk)
      → disk.failures (draft_disk mid) ≤ disk.failures (draft_disk new)
      → (disk.keeps (draft_disk new) → disk.keeps (draft_disk mid))
      → HasStopped disk old records (new_fault_of fault) new
  stopped_at old mid new done chunk rest records fault first left only leaves device full later kept =
      let long : length (batches_bytes done) + 3 + 6 * length chunk ≤ length (batches_bytes (in_thousands records)) =
      omega (arith, length_front done (new_batch chunk) (in_thousands rest), ap (λ (l : List Batch). length (batches_bytes l)) (sym (append_assoc done (new_batch chunk ∷ []) (in_thousands rest)) ∙ left)) in
      record {
        only = filling fault only;
        any_moment = λ keeps. then_leaves (first.any_moment (kept keeps)) (leaves keeps);
        device = λ is. omega (arith, first.quiet, device (of_device fault only is));
        full = λ is. omega (arith, first.gate_is, full (of_room fault only is), long);
        later = omega (arith, first.quiet, later);
        kept = λ k. first.kept (kept k);
      }

-- what is done, the next batch, and what stands behind it
pub one_more : (done : List Batch) (all chunk rest records : List Record) → done ++ in_thousands all ≡ in_thousands records → all ≡ chunk ++ rest → length chunk ≡ min 1000 (length all) → 0 < length all
    → (done ++ new_batch chunk ∷ []) ++ in_thousands rest ≡ in_thousands records
one_more done all chunk rest records so_far parts size some =
    append_assoc done (new_batch chunk ∷ []) (in_thousands rest) ∙ ap (λ (l : List Batch). done ++ l) (sym (next_thousand all chunk rest parts size some)) ∙ so_far

-- all is done
pub all_done : (done : List Batch) (all records : List Record) → done ++ in_thousands all ≡ in_thousands records → length all ≡ 0 → done ≡ in_thousands records
all_done done all records so_far none =
    sym (append-nil done) ∙ ap (λ (l : List Batch). done ++ l) (sym none_in_thousands ∙ ap in_thousands (sym (nil_from_length all none))) ∙ so_far
