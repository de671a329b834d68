use Rattle.std.proofs.Common.{rules, subst, sym, ℕ, List}
use Rattle.migration.specs.Old.{HasOldHeader}
use Rattle.commands.proofs.old_damage.header_of.Goals as goal

pub returns-in-Err-NotOld-clause-none : goal.returns-in-Err-NotOld-clause-none
returns-in-Err-NotOld-clause-none c = λ none header has.
    c.peek_old.ensures.not_old tt (search (rules, c.in-Err-NotOld.is, c.in-Err-NotOld.field-0-is)) header
    (subst (λ (l : List ℕ). HasOldHeader header l) (sym c.in_ok-disk.ensures) has)
