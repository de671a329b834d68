use Rattle.std.proofs.Common.{List, ℕ, [], ◌∷◌, ◌++◌, take}
use Rattle.disk.proofs.Moments.{started}
use Rattle.journal.specs.Words.{batch_body, IsCommit}
use Rattle.journal.proofs.Crash.{stays_shut}
use Rattle.journal.proofs.journal.Tail.add.Goals as goal

pub returns-then-self-len-clause-any_moment : goal.returns-then-self-len-clause-any_moment
returns-then-self-len-clause-any_moment g c keeps =
    let old = c.args.self.now in
    let s = g.D.Disk.state old.disk in
    let body : List ℕ = batch_body c.args.records.now ++ 0 ∷ [] in
    started g.D.Disk.moment g.D.Disk.since g.D.Disk.state old.disk (IsCommit (take old.gate s.seen) body)
    (λ f left. stays_shut s old.gate body f (c.requires.shut keeps) (g.met.D.Disk.only_now old.disk f keeps left))

pub returns-in_err-bytes-clause-any_moment : goal.returns-in_err-bytes-clause-any_moment
returns-in_err-bytes-clause-any_moment g c keeps =
    let old = c.args.self.now in
    let s = g.D.Disk.state old.disk in
    let body : List ℕ = batch_body c.args.records.now ++ 0 ∷ [] in
    started g.D.Disk.moment g.D.Disk.since g.D.Disk.state old.disk (IsCommit (take old.gate s.seen) body)
    (λ f left. stays_shut s old.gate body f (c.requires.shut keeps) (g.met.D.Disk.only_now old.disk f keeps left))
