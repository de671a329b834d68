use Rattle.std.proofs.Common.{List, sym, subst}
use Rattle.terms_prelude.specs.Terms.{Record}
use Rattle.journal.specs.File.{Holds}
use Rattle.commands.proofs.dump.read_records.Goals as goal

pub returns-clause-held : goal.returns-clause-held
returns-clause-held g c = λ keeps.
    let left = c.in_ok-batches.ensures.left in
    subst (λ (l : List Record). Holds c.args.header.now l (g.D.Disk.state c.args.disk.now).seen) (sym (c.in_ok-gather.ensures left.0 left.1)) (left.2 keeps)
