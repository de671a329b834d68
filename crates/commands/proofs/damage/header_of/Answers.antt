use Rattle.std.proofs.Common.{rules, subst, sym, ℕ, List}
use Rattle.journal.specs.File.{HasHeader, IsOldVersion}
use Rattle.journal.proofs.Opened.{header_is_new}
use Rattle.commands.proofs.damage.header_of.Goals as goal

pub returns-in-Err-BadHeader-clause-none : goal.returns-in-Err-BadHeader-clause-none
returns-in-Err-BadHeader-clause-none c = λ none header has.
    c.peek.ensures.bad_header tt (search (rules, c.in-Err-BadHeader.is, c.in-Err-BadHeader.field-0-is)) header
    (subst (λ (l : List ℕ). HasHeader header l) (sym c.in_ok-disk.ensures) has)

pub returns-in-Err-OldVersion-clause-none : goal.returns-in-Err-OldVersion-clause-none
returns-in-Err-OldVersion-clause-none c = λ none header has.
    header_is_new header _ (subst (λ (l : List ℕ). HasHeader header l) (sym c.in_ok-disk.ensures) has)
    (c.peek.ensures.old_version tt (search (rules, c.in-Err-OldVersion.is, c.in-Err-OldVersion.field-0-is)))
