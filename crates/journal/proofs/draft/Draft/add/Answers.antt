use Rattle.std.proofs.Common.{refl}
use Rattle.disk.proofs.Moments.{leaves_more}
use Rattle.journal.specs.Words.{IsNoJournal, draft_disk, draft_header, draft_gate}
use Rattle.journal.proofs.Drafts.{draft_shut, commit_no_journal, drafted_more}
use Rattle.journal.proofs.draft.Draft.add.Goals as goal

pub add-requires-clause-shut : goal.add-requires-clause-shut
unfolding draft_disk draft_header draft_gate
add-requires-clause-shut g c keeps =
    let d = c.requires.drafted keeps in
    draft_shut g.D.Disk.state d.0 c.args.self.now d.1

pub returns-in_err-add-clause-any_moment : goal.returns-in_err-add-clause-any_moment
unfolding draft_disk draft_header draft_gate
returns-in_err-add-clause-any_moment g c keeps =
    let d = c.requires.drafted (c.add.ensures.kept keeps) in
    leaves_more IsNoJournal (commit_no_journal g.D.Disk.state d.0 c.args.self.now d.1 _) (c.add.ensures.any_moment keeps)

pub returns-clause-any_moment : goal.returns-clause-any_moment
unfolding draft_disk draft_header draft_gate
returns-clause-any_moment g c keeps =
    let d = c.requires.drafted (c.add.ensures.kept keeps) in
    leaves_more IsNoJournal (commit_no_journal g.D.Disk.state d.0 c.args.self.now d.1 _) (c.add.ensures.any_moment keeps)

pub returns-clause-added : goal.returns-clause-added
unfolding draft_disk draft_header draft_gate
returns-clause-added g c keeps batches is =
    drafted_more g.D.Disk.state batches c.args.self.now is c.args.records.now c.requires.some c.requires.count c.requires.well_formed _ refl (c.in_ok-add.ensures.done keeps) c.in_ok-add.ensures.gate
