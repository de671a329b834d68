-- A file that had bytes, and wasn't written.
use Rattle.std.proofs.Common.{◌≡◌, ℕ, List, length, Result, subst, arith}
use Rattle.disk.specs.Model.{State, MayLeave, Elapses}
use Rattle.disk.specs.declared.device.Disk.{Ghosts as DiskGhosts}
use Rattle.disk.proofs.Moments.{started, goes_on}
use Rattle.journal.specs.Outcomes.{SparesBytes}

module _ {D : Type 0} (disk : DiskGhosts D) (old new : D) where
  -- one look at it was all
  pub spared_by_a_look : {T E : Type 0} (result : Result T E) → ((d : D) (file : List ℕ) → disk.keeps d → disk.since d (disk.moment d) file → MayLeave (disk.state d) file) → (disk.keeps new → disk.keeps old) → (disk.keeps new → disk.state new ≡ disk.state old)
      → (disk.keeps new → Elapses (disk.moment old) (disk.moment new) (disk.since old) (disk.since new) (disk.state old) (disk.state new) result) → SparesBytes disk old new
  spared_by_a_look result only_now kept same time = record {
    same = λ keeps some. same keeps;
    any_moment = λ keeps some.
        let P : List ℕ → Type 0 = MayLeave (disk.state old) in
        goes_on disk.moment disk.since disk.state old old new P result
        (started disk.moment disk.since disk.state old P (λ file left. only_now old file (kept keeps) left))
        (time keeps) (λ file may. subst (λ (s : State). MayLeave s file) (same keeps) may);
  }

  -- there was no byte
  pub spared_if_empty : (disk.keeps new → length (disk.state old).seen ≡ 0) → SparesBytes disk old new
  spared_if_empty none = record {
    same = λ keeps some. absurd (omega (arith, some, none keeps));
    any_moment = λ keeps some. absurd (omega (arith, some, none keeps));
  }
