use Rattle.std.proofs.Common.{rules, ◌≡◌, ◌≤◌, ℕ, List, take, drop, subst}
use Rattle.std.proofs.lemmas.List.{take_min}
use Rattle.commands.specs.Damage.{IsBadAlone}
use Rattle.commands.proofs.damage.bad_record.Goals as goal

pub returns-then-branch : goal.returns-then-branch
returns-then-branch c =
    let file = c.args.file.now in
    let place = c.saturating_add-place.result in
    let bytes : c.in-Some.record.now ≡ take 6 (drop place file) = search (rules, c.in-Some.ensures) in
    let front : take c.min.result file ≡ take 24 file = search (rules, c.min.ensures, take_min 24 file) in
    let later : c.args.end ≤ place = search (rules, c.saturating_add-place.ensures) in
    let alone : IsBadAlone c.args.header.now (take c.min.result file) c.in-Some.record.now = c.in_ok-is_bad_alone.ensures c.if-branch.true in
    let behind : IsBadAlone c.args.header.now (take 24 file) c.in-Some.record.now =
    subst (λ (l : List ℕ). IsBadAlone c.args.header.now l c.in-Some.record.now) front alone in
    let whole : IsBadAlone c.args.header.now (take 24 file) (take 6 (drop place file)) =
    subst (λ (l : List ℕ). IsBadAlone c.args.header.now (take 24 file) l) bytes behind in
    (search (rules, later), search (rules, whole))
