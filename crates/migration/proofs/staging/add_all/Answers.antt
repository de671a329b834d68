use Rattle.std.proofs.Common.{◌≡◌, ℕ, min, List, [], ◌∷◌, ◌++◌, length, Err, sym, ◌∙◌, ap, subst, rules}
use Rattle.std.proofs.lemmas.Result.{err_from_is_err_and}
use Rattle.std.specs.Slice.Iter.{chunks_rest}
use Rattle.terms_prelude.specs.Terms.{Record, Header}
use Rattle.migration.specs.Words.{AreWellFormedFor, IsWellFormedFor, Batch, draft_header, new_batch, HasGrown}
use Rattle.migration.proofs.Growing.{all_parts, all_done, grown_none, grown_more, stopped_at, one_more}
use Rattle.migration.proofs.staging.add_all.Goals as goal

pub loop-batch-init : goal.loop-batch-init
loop-batch-init g c = (
  search rules,
  tt,
  search rules,
  search (rules, c.requires.well_formed),
  ([], search rules, grown_none g.E.Disk g.met.E.Disk.only_now c.args.draft.now c.requires.drafted),
)

pub add-requires-clause-well_formed : goal.add-requires-clause-well_formed
add-requires-clause-well_formed g c =
    let so_far = c.loop-batch.invariant in
    let header = draft_header c.args.draft.now in
    let batch : List Record = c.in-Some.batch.now in
    let all : AreWellFormedFor header (batch ++ chunks_rest c.next.new.self) = subst (λ (l : List Record). AreWellFormedFor header l) c.in-Some.ensures.steps.1.0 so_far.3 in
    subst (λ (h : Header). AreWellFormedFor h batch) (sym so_far.4.2.header_is) (all_parts (IsWellFormedFor header) batch (chunks_rest c.next.new.self) all).0

pub loop-batch-preserved : goal.loop-batch-preserved
loop-batch-preserved g c =
    let so_far = c.loop-batch.invariant in
    let steps = c.in-Some.ensures.steps in
    let header = draft_header c.args.draft.now in
    let batch : List Record = c.in-Some.batch.now in
    let rest : List Record = chunks_rest c.next.new.self in
    let all : AreWellFormedFor header (batch ++ rest) = subst (λ (l : List Record). AreWellFormedFor header l) steps.1.0 so_far.3 in
    let size : length batch ≡ min 1000 (length (chunks_rest c.loop-batch.batch-iterator)) = steps.1.1 ∙ ap (λ (n : ℕ). min n (length (chunks_rest c.loop-batch.batch-iterator))) so_far.2 in
    let added = c.in_ok-add.ensures in (
      search rules,
      tt,
      steps.0 ∙ so_far.2,
      (all_parts (IsWellFormedFor header) batch rest all).1,
      (
        so_far.4.0 ++ new_batch batch ∷ [],
        one_more so_far.4.0 (chunks_rest c.loop-batch.batch-iterator) batch rest c.args.records.now so_far.4.1 steps.1.0 size steps.1.2,
        grown_more g.E.Disk c.args.draft.now c.loop-batch.draft c.add.new.self so_far.4.0 batch so_far.4.2 added.added added.any_moment added.four_calls added.header added.gate added.room added.quiet added.kept,
      ),
    )

pub returns-in_err-add-clause-fault : goal.returns-in_err-add-clause-fault
returns-in_err-add-clause-fault g c =
    let p = err_from_is_err_and c.from_residual.result c.from_residual.ensures.1 in
    let so_far = c.loop-batch.invariant in
    let steps = c.in-Some.ensures.steps in
    let batch : List Record = c.in-Some.batch.now in
    let rest : List Record = chunks_rest c.next.new.self in
    let size : length batch ≡ min 1000 (length (chunks_rest c.loop-batch.batch-iterator)) = steps.1.1 ∙ ap (λ (n : ℕ). min n (length (chunks_rest c.loop-batch.batch-iterator))) so_far.2 in
    let left = one_more so_far.4.0 (chunks_rest c.loop-batch.batch-iterator) batch rest c.args.records.now so_far.4.1 steps.1.0 size steps.1.2 in
    let failed = c.in_err-add.ensures in
    rw (p.1, p.2) (stopped_at g.E.Disk c.args.draft.now c.loop-batch.draft c.add.new.self so_far.4.0 batch rest c.args.records.now _ so_far.4.2 left failed.only failed.any_moment (λ is. failed.device (ap Err is)) (λ is. failed.full.0 (ap Err is)) failed.later failed.kept)

pub returns-clause-grown : goal.returns-clause-grown
returns-clause-grown g c =
    let so_far = c.loop-batch.invariant in
    subst (λ (bs : List Batch). HasGrown g.E.Disk c.args.draft.now bs c.loop-batch.draft)
    (all_done so_far.4.0 (chunks_rest c.loop-batch.batch-iterator) c.args.records.now so_far.4.1 c.in-None.ensures.steps.1.0) so_far.4.2
