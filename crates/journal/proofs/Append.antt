-- What an append leaves.
use Rattle.std.proofs.Common.{◌≡◌, ◌≢◌, ◌⊎◌, inl, ℕ, ◌+◌, ◌*◌, ◌≤◌, false, refl, append-nil, List, [], ◌∷◌, ◌++◌, length, take, sym, ◌∙◌, ap, subst, arith}
use Rattle.terms_prelude.specs.Terms.{Record, Header}
use Rattle.disk.specs.Model.{State, MayLeave, LeavesOnly, at_rest}
use Rattle.disk.specs.declared.device.Disk.{Ghosts as DiskGhosts}
use Rattle.disk.proofs.Moments.{leaves_more}
use Rattle.journal.specs.Words.{Journal, HasAdded, AddsAllOrNothing, journal_disk, journal_header, journal_gate, journal_is_stopped, IsAtRest, header_text, batch_body, batches_bytes, AreWellFormedFor, Holds, IsHeld, IsCommit, with_batch}
use Rattle.journal.proofs.Crash.{committed}
use Rattle.journal.proofs.Held.{left_holds, held_front, held_shut, held_more, holds_commit}

module _ (s : State) (header : Header) (place : ℕ) (all : List Record) (held : IsHeld s header place all) where
  -- where there is no call
  pub quiet : {D : Type 0} (moment : D → ℕ) (since : D → ℕ → List ℕ → Type 0) (disk : D) (Q : List ℕ → Type 0) → ((file : List ℕ) → since disk (moment disk) file → MayLeave s file) → LeavesOnly moment since disk disk (λ file. Holds header all file ⊎ Q file)
  quiet moment since disk Q only = record {
    later = omega arith;
    each = λ file left. inl (left_holds s header place all held file (only file left));
    before = λ t file le left. inl left;
  }

  module _ (records : List Record) (some : 1 ≤ length records) (few : length records ≤ 65535) (good : AreWellFormedFor header records) where
    abbrev text : List ℕ
    text = header_text header ++ batches_bytes held.batches

    abbrev body : List ℕ
    body = batch_body records ++ 0 ∷ []

    pub commit_leaves : {D : Type 0} (moment : D → ℕ) (since : D → ℕ → List ℕ → Type 0) (old new : D) → LeavesOnly moment since old new (IsCommit (take place s.seen) body) → LeavesOnly moment since old new (λ file. Holds header all file ⊎ Holds header (all ++ records) file)
    commit_leaves moment since old new leaves =
        leaves_more (λ file. Holds header all file ⊎ Holds header (all ++ records) file) (λ file is.
        holds_commit s header place all held records some few good file
        (subst (λ (l : List ℕ). IsCommit l body file) (held_front s header place all held) is)) leaves

    pub now_held : (new : State) (place' : ℕ) → new ≡ at_rest (with_batch place records s.seen) → place' ≡ place + 3 + 6 * length records → IsHeld new header place' (all ++ records)
    now_held new place' done gate =
        let shut = held_shut s header place all held in
        let stands = committed s.seen place body shut.within shut.closed in
        let seen_is : new.seen ≡ (text ++ 1 ∷ body) ++ stands.0 =
        ap (λ (t : State). t.seen) done ∙ stands.1 ∙ ap (λ (l : List ℕ). (l ++ 1 ∷ body) ++ stands.0) (held_front s header place all held) in
        let open_1 : 1 ≢ 0 = λ e. cc e in
        held_more s header place all held records some few good new place' 1 stands.0 open_1 (done ∙ ap (λ (t : State). at_rest t.seen) (sym done)) seen_is gate

module _ {D : Type 0} (disk : DiskGhosts D) (old : Journal D) (batch : List Record) where
  -- where there is no call
  pub nothing_added : ((d : D) (file : List ℕ) → disk.keeps d → disk.since d (disk.moment d) file → MayLeave (disk.state d) file) → AddsAllOrNothing disk old batch old
  nothing_added only_now = record {
    any_moment = λ keeps header all settled.
        quiet (disk.state (journal_disk old)) header (journal_gate old) all settled.held disk.moment disk.since (journal_disk old) (Holds header (all ++ batch))
        (λ file left. only_now (journal_disk old) file keeps left);
    empty_is_no_call = λ empty. refl;
    header = refl;
    later = omega arith;
    kept = λ k. k;
  }

  -- a batch of no record is there already
  pub empty_added : batch ≡ [] → journal_is_stopped old ≡ false → HasAdded disk old batch old
  empty_added none running =
      let all_is = λ (all : List Record). sym (ap (λ (l : List Record). all ++ l) none ∙ append-nil all) in
      let long = ap (λ (l : List Record). length l) none in
      record {
        was_running = running;
        running = running;
        settled = λ keeps header all settled. subst (λ (l : List Record). IsAtRest disk.state header l old) (all_is all) settled;
        acknowledged = λ keeps header all settled file may.
            subst (λ (l : List Record). Holds header l file) (all_is all)
            (left_holds (disk.state (journal_disk old)) header (journal_gate old) all settled.held file may);
        four_calls = λ keeps some. absurd (omega (arith, some, long));
        calls = λ keeps some. absurd (omega (arith, some, long));
        gate = λ some. absurd (omega (arith, some, long));
        room = λ some. absurd (omega (arith, some, long));
      }

  -- where the batch's bytes were put behind the gate, however that ended
  pub all_or_nothing : 1 ≤ length batch → length batch ≤ 65535 → AreWellFormedFor (journal_header old) batch → (new : Journal D) → journal_header new ≡ journal_header old
      → (disk.keeps (journal_disk new) → LeavesOnly disk.moment disk.since (journal_disk old) (journal_disk new) (IsCommit (take (journal_gate old) (disk.state (journal_disk old)).seen) (batch_body batch ++ 0 ∷ [])))
      → disk.failures (journal_disk old) ≤ disk.failures (journal_disk new) → (disk.keeps (journal_disk new) → disk.keeps (journal_disk old))
      → AddsAllOrNothing disk old batch new
  all_or_nothing some few good new header_is leaves later kept = record {
    any_moment = λ keeps header all settled.
        commit_leaves (disk.state (journal_disk old)) header (journal_gate old) all settled.held batch some few
        (subst (λ (h : Header). AreWellFormedFor h batch) settled.header_is good) disk.moment disk.since (journal_disk old) (journal_disk new) (leaves keeps);
    empty_is_no_call = λ empty. absurd (omega (arith, some, empty));
    header = header_is;
    later = later;
    kept = kept;
  }
